use Rattle.std.proofs.Common.{◌≡◌, ◌∙◌, ◌+◌, ap, arith, sym}
use Rattle.dollar_rules.specs.steps.Weights.{depth, depth_in, entry_codes, field_codes, parts, parts_in}
use Rattle.dollar_rules.proofs.CountedParts.{counted_one, large_one, shallow_one}
use Rattle.dollar_rules.proofs.WeightLaws.{depth-built_in, depth-call, depth-list, depth-map, depth-tuple, depth-unary, parts-built_in, parts-call, parts-list, parts-map, parts-tuple, parts-unary}
use Rattle.dollar_rules.proofs.weights.+fits.Goals as goal

pub fits-returns-in-Map : goal.fits-returns-in-Map
fits-returns-in-Map t c =
    let some = c.in-Some-Some in
    let deep : depth c.args.code.now ≡ 1 + depth_in (entry_codes c.as_slice.result.now) = ap depth c.in-Map.is ∙ depth-map c.in-Map.entries ∙ ap (λ xs. 1 + depth_in (entry_codes xs)) (sym c.as_slice.ensures) in
    let many : parts c.args.code.now ≡ 1 + parts_in (entry_codes c.as_slice.result.now) = ap parts c.in-Map.is ∙ parts-map c.in-Map.entries ∙ ap (λ xs. 1 + parts_in (entry_codes xs)) (sym c.as_slice.ensures) in
    record {
      shallow = shallow_one _ (depth_in (entry_codes c.as_slice.result.now)) c.args.levels some.inner c.entries_fit.result deep some.ensures c.entries_fit.ensures.shallow;
      counted = counted_one _ (parts_in (entry_codes c.as_slice.result.now)) c.args.left.now some.fewer c.entries_fit.new.left c.entries_fit.result many some.ensures' c.entries_fit.ensures.counted;
      large = large_one _ (depth_in (entry_codes c.as_slice.result.now)) c.args.levels some.inner _ (parts_in (entry_codes c.as_slice.result.now)) c.args.left.now some.fewer c.entries_fit.result deep many some.ensures some.ensures' c.entries_fit.ensures.large;
    }

pub fits-returns-in-Tuple : goal.fits-returns-in-Tuple
fits-returns-in-Tuple t c =
    let some = c.in-Some-Some in
    let deep : depth c.args.code.now ≡ 1 + depth_in (field_codes c.as_slice-in-Tuple.result.now) = ap depth c.in-Tuple.is ∙ depth-tuple c.in-Tuple.fields ∙ ap (λ xs. 1 + depth_in (field_codes xs)) (sym c.as_slice-in-Tuple.ensures) in
    let many : parts c.args.code.now ≡ 1 + parts_in (field_codes c.as_slice-in-Tuple.result.now) = ap parts c.in-Tuple.is ∙ parts-tuple c.in-Tuple.fields ∙ ap (λ xs. 1 + parts_in (field_codes xs)) (sym c.as_slice-in-Tuple.ensures) in
    record {
      shallow = shallow_one _ (depth_in (field_codes c.as_slice-in-Tuple.result.now)) c.args.levels some.inner c.fields_fit.result deep some.ensures c.fields_fit.ensures.shallow;
      counted = counted_one _ (parts_in (field_codes c.as_slice-in-Tuple.result.now)) c.args.left.now some.fewer c.fields_fit.new.left c.fields_fit.result many some.ensures' c.fields_fit.ensures.counted;
      large = large_one _ (depth_in (field_codes c.as_slice-in-Tuple.result.now)) c.args.levels some.inner _ (parts_in (field_codes c.as_slice-in-Tuple.result.now)) c.args.left.now some.fewer c.fields_fit.result deep many some.ensures some.ensures' c.fields_fit.ensures.large;
    }

pub fits-returns-in-Unary : goal.fits-returns-in-Unary
fits-returns-in-Unary t c =
    let some = c.in-Some-Some in
    let deep : depth c.args.code.now ≡ 1 + depth c.get-in-Unary.result.now = (let same = ap depth c.in-Unary.is ∙ depth-unary _ c.in-Unary.operand in let got = ap depth c.get-in-Unary.ensures in omega arith) in
    let many : parts c.args.code.now ≡ 1 + parts c.get-in-Unary.result.now = (let same = ap parts c.in-Unary.is ∙ parts-unary _ c.in-Unary.operand in let got = ap parts c.get-in-Unary.ensures in omega arith) in
    record {
      shallow = shallow_one _ (depth c.get-in-Unary.result.now) c.args.levels some.inner c.fits-in-Unary.result deep some.ensures c.fits-in-Unary.ensures.shallow;
      counted = counted_one _ (parts c.get-in-Unary.result.now) c.args.left.now some.fewer c.fits-in-Unary.new.left c.fits-in-Unary.result many some.ensures' c.fits-in-Unary.ensures.counted;
      large = large_one _ (depth c.get-in-Unary.result.now) c.args.levels some.inner _ (parts c.get-in-Unary.result.now) c.args.left.now some.fewer c.fits-in-Unary.result deep many some.ensures some.ensures' c.fits-in-Unary.ensures.large;
    }

pub fits-returns-in-List : goal.fits-returns-in-List
fits-returns-in-List t c =
    let some = c.in-Some-Some in
    let deep : depth c.args.code.now ≡ 1 + depth_in c.as_slice-in-List.result.now = (let form : depth c.args.code.now ≡ 1 + depth_in c.in-List.codes = grind (arith, depth-list, depth-built_in, depth-call) in form ∙ ap (λ xs. 1 + depth_in xs) (sym c.as_slice-in-List.ensures)) in
    let many : parts c.args.code.now ≡ 1 + parts_in c.as_slice-in-List.result.now = (let form : parts c.args.code.now ≡ 1 + parts_in c.in-List.codes = grind (arith, parts-list, parts-built_in, parts-call) in form ∙ ap (λ xs. 1 + parts_in xs) (sym c.as_slice-in-List.ensures)) in
    record {
      shallow = shallow_one _ (depth_in c.as_slice-in-List.result.now) c.args.levels some.inner c.all_fit.result deep some.ensures c.all_fit.ensures.shallow;
      counted = counted_one _ (parts_in c.as_slice-in-List.result.now) c.args.left.now some.fewer c.all_fit.new.left c.all_fit.result many some.ensures' c.all_fit.ensures.counted;
      large = large_one _ (depth_in c.as_slice-in-List.result.now) c.args.levels some.inner _ (parts_in c.as_slice-in-List.result.now) c.args.left.now some.fewer c.all_fit.result deep many some.ensures some.ensures' c.all_fit.ensures.large;
    }
