-- The ends of links that a node has: whose they are, and what has gone over them.
use Rattle.std.specs.Prelude.{◌≡◌, ◌<◌, ◌≤◌, ◌^◌, ℕ, List, length, slice_index_or}
use Rattle.stream_model.specs.Sending.{on_output}
use Rattle.network_model.specs.Receipts.{popped}
use Rattle.network_model.specs.States.{At, all_taken}
use Rattle.ordered_link.specs.declared.ends.Link.{Link}
use Rattle.ordered_link.specs.Ends.{IsSenderOf, IsTakerOf, sent, taken, wear_of}
use Rattle.node_turns.specs.declared.ends.Inlet.{Inlet}
use Rattle.node_turns.specs.declared.ends.Outlet.{Outlet}

-- each is the end of the link with its number, which carries no more packets than links may
pub record IsTaker (links : List Link) (inlet : Inlet) : Type 0 where
  pub within : inlet.link < length links
  pub taker : (d : Link) → IsTakerOf (slice_index_or links inlet.link d) inlet.pass
  pub wear : (d : Link) → wear_of (slice_index_or links inlet.link d) ≤ 2 ^ 61

pub record IsSender (links : List Link) (outlet : Outlet) : Type 0 where
  pub within : outlet.link < length links
  pub sender : (d : Link) → IsSenderOf (slice_index_or links outlet.link d) outlet.pass

abbrev pub InsPlaced : List Link → List Inlet → Type 0
InsPlaced links ins = (i : ℕ) (d : Inlet) → i < length ins → IsTaker links (slice_index_or ins i d)

abbrev pub OutsPlaced : List Link → List Outlet → Type 0
OutsPlaced links outs = (o : ℕ) (d : Outlet) → o < length outs → IsSender links (slice_index_or outs o d)

-- what an element has taken at each input is what was taken there from the link
abbrev pub TakenIs : List Inlet → At → Type 0
TakenIs ins a = (i : ℕ) (d : Inlet) → i < length ins → popped i (all_taken a) ≡ taken (slice_index_or ins i d).pass

-- and what it has pushed on each output is what was sent there
abbrev pub SentIs : List Outlet → At → Type 0
SentIs outs a = (o : ℕ) (d : Outlet) → o < length outs → on_output o a.pushed ≡ sent (slice_index_or outs o d).pass
