use Rattle.std.proofs.Common.{arith}
use Rattle.std.proofs.lemmas.Grind.{common_steps}
use Rattle.spl_lexer.proofs.Escapes.{plain_step, backslash_step, escape_step}
use Rattle.spl_lexer.proofs.texts.unescape.Goals as goal
use Rattle.spl_lexer.proofs.texts.unescape.Goals.{then-escaped+in-Some+in_ok-push, else-escaped+then-b-eq92, else-escaped+else-b-eq92+in_ok-push-2}

pub loop-i-preserved : goal.loop-i-preserved
loop-i-preserved c =
    elim c.if-escaped.branch [
      | then-escaped+in-Some+in_ok-push w ↦ grind (arith, common_steps, escape_step)
      | else-escaped+then-b-eq92 w ↦ grind (arith, common_steps, backslash_step)
      | else-escaped+else-b-eq92+in_ok-push-2 w ↦ grind (arith, common_steps, plain_step)
    ]
