use Rattle.std.proofs.Common.{subst, drop}
use Rattle.std.specs.Prelude.{IfOk}
use Rattle.txt_format.specs.steps.Bytes.{IsRead}
use Rattle.txt_format.proofs.Steps.{text_behind}
use Rattle.txt_format.proofs.texts.add_text.Goals as goal

pub returns-in-Some : goal.returns-in-Some
returns-in-Some c =
    subst (λ r. IfOk c.add_opened.result (IsRead r c.args.line.now c.add_opened.new.values))
    (text_behind c.args.values.now (drop c.args.at c.args.line.now) (drop c.in-Some.behind c.args.line.now) c.in-Some.ensures.1) c.add_opened.ensures
