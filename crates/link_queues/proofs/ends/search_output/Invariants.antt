use Rattle.std.proofs.Common.{◌≡◌, ◌≢◌, ◌<◌, ℕ, Some, slice_get}
use Rattle.stream_model.specs.declared.shape.ShapeLink.{ShapeLink}
use Rattle.link_queues.proofs.ends.search_output.Given as goal

-- none of those before leads away from the output
abbrev pub invariant-row : goal.invariant-row
invariant-row l = (j n : ℕ) (x : ShapeLink) → j < l.link-index → slice_get l.row j ≡ Some n → slice_get l.links n ≡ Some x → x.output ≢ l.output
