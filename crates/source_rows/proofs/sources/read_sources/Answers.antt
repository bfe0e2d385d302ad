use Rattle.std.proofs.Common.{rules, arith, ap, ℕ, [], ◌∷◌, ◌++◌, ◌∙◌, ◌≡◌, ◌+◌, length, slice_get, sym, Some}
use Rattle.std.proofs.lemmas.List.{length_push}
use Rattle.std.proofs.lemmas.Option.{get_or_from_slice_get}
use Rattle.source_rows.proofs.Counting.{not_opened, only_on, reads_twice, told_twice, lent_twice, wanting_on, wanting_before}
use Rattle.source_rows.proofs.Reading.{grows_twice}
use Rattle.source_rows.proofs.Operators.{all_rows, rows_more}
use Rattle.source_rows.proofs.sources.read_sources.Goals as goal
use Rattle.spl_value.proofs.Lists.{get_within}

pub returns-then-is_err-clause-cause : goal.returns-then-is_err-clause-cause
returns-then-is_err-clause-cause g c =
    let parts = c.args.checked.now.parts in
    let i = c.operators.number in
    let part = c.in-Some-Some.part.now in
    let has : slice_get parts i ≡ Some part = search rules in
    let within = get_within parts i part has in
    let here = sym (get_or_from_slice_get parts i part part has) in
    wanting_before parts (i + 1) _ _ (only_on parts i part _ _ _ within here c.operators.invariant.only c.in-Rows.ensures.cause)

pub returns-in-OpenFailed-clause-cause : goal.returns-in-OpenFailed-clause-cause
returns-in-OpenFailed-clause-cause g c =
    let parts = c.args.checked.now.parts in
    let i = c.operators.number in
    let part = c.in-Some-Some.part.now in
    let has : slice_get parts i ≡ Some part = search rules in
    let within = get_within parts i part has in
    let here = sym (get_or_from_slice_get parts i part part has) in
    not_opened parts i part c.in-OpenFailed.name _ _ _ within here c.operators.invariant.only c.in-OpenFailed.ensures.cause

pub returns-in-Memory-clause-cause : goal.returns-in-Memory-clause-cause
returns-in-Memory-clause-cause g c =
    let parts = c.args.checked.now.parts in
    let i = c.operators.number in
    let part = c.in-Some-Some.part.now in
    let has : slice_get parts i ≡ Some part = search rules in
    let within = get_within parts i part has in
    let here = sym (get_or_from_slice_get parts i part part has) in
    wanting_on parts i part _ _ _ within here c.operators.invariant.only c.in-Memory.ensures.cause

pub operators-preserved : goal.operators-preserved
operators-preserved g c =
    let checked = c.args.checked.now in
    let parts = checked.parts in
    let i = c.operators.number in
    let op = c.in-Some-Some.op.now in
    let part = c.in-Some-Some.part.now in
    let inv = c.operators.invariant in
    let there : slice_get checked.graph.ops i ≡ Some op = search rules in
    let has : slice_get parts i ≡ Some part = search rules in
    let within = get_within parts i part has in
    let here = sym (get_or_from_slice_get parts i part part has) in
    let old = (g.H.Shelf).counts c.args.shelf.now in
    let mid = (g.H.Shelf).counts c.operators.shelf in
    let new = (g.H.Shelf).counts c.read_source.new.shelf in
    let pushed : c.push.new.self ≡ c.operators.rows ++ c.in-Rows.items ∷ [] = search rules in
    record {
      size = ap length pushed ∙ length_push c.operators.rows c.in-Rows.items ∙ ap (λ (n : ℕ). n + 1) inv.size;
      some = omega (arith, within);
      rows = rows_more checked i op part c.in-Rows.items c.operators.rows c.push.new.self _ _ _ _ _ inv.size there has inv.grows c.read_source.ensures.grows inv.told pushed inv.rows c.in-Rows.ensures.made;
      grows = grows_twice old mid new inv.grows c.read_source.ensures.grows;
      told = told_twice _ _ _ inv.told c.read_source.ensures.told;
      failing = reads_twice _ _ old mid new inv.told inv.failing c.read_source.ensures.reads;
      only = only_on parts i part _ _ _ within here inv.only c.in-Rows.ensures.cause;
      lent = lent_twice _ _ _ inv.lent c.read_source.ensures.lent;
    }

pub returns-clause-made : goal.returns-clause-made
returns-clause-made g c =
    all_rows c.args.checked.now c.operators.rows _ _ _ c.operators.number (search rules) (search rules) c.operators.invariant.size c.operators.invariant.some c.operators.invariant.rows
