use Rattle.std.specs.Prelude.{Some, None}
use Rattle.std.specs.Option.{option_copied}
use Rattle.std.proofs.Common.{ap, refl, ◌∙◌}
use Rattle.literal_sites.specs.Sites.{followed_in}
use Rattle.duplicate_rules.proofs.Texts.{text_is}
use Rattle.duplicate_rules.proofs.files.text_of.Goals as goal

pub returns-in_err-found : goal.returns-in_err-found
returns-in_err-found c =
    let s = c.args.sites.now in
    ap option_copied c.from_residual.ensures
    ∙ text_is s.unit.now s.expansions.now c.args.number c.args.value.now (followed_in c.new.result) None None c.new.ensures c.in_err-found.ensures refl

pub returns : goal.returns
returns c =
    let s = c.args.sites.now in
    text_is s.unit.now s.expansions.now c.args.number c.args.value.now (followed_in c.new.result) (Some c.in_ok-found.found.now) _ c.new.ensures c.in_ok-found.ensures
    c.literal_text.ensures
