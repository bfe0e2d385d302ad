use Rattle.std.proofs.Common.{ap, sym, ◌∙◌, refl}
use Rattle.std.specs.HashMap.{get}
use Rattle.program_tables.specs.Names.{same_bytes}
use Rattle.program_tables.proofs.Growing.{stands_among, stands_new}
use Rattle.program_tables.proofs.names.Names.add.Goals.{then-not-has+in_ok-insert, else-not-has}
use Rattle.program_tables.proofs.names.Names.add.Goals as goal

pub returns : goal.returns
returns c = λ names stand.
    let table = c.args.self.now in
    let has = sym (c.has.ensures names stand) in
    elim c.if-not-has.branch [
      | then-not-has+in_ok-insert w ↦
          stands_new table names c.args.name.now stand _ c.args.name refl c.in-Some.ensures.1
          (λ q. ap (λ t. get same_bytes t.places q) w.self-is ∙ w.in_ok-insert.ensures.updates.0 q) (has ∙ w.if-not-has.true)
      | else-not-has w ↦
          stands_among table names c.args.name.now stand _ c.in-Some.ensures.1 (ap (λ t. t.places) w.self-is) (has ∙ w.if-not-has.false)
    ]
