-- The histories that an operator stands for, whose connections are counted apart from it.
use Rattle.std.specs.Prelude.{◌≡◌, ℕ, true, List, length}
use Rattle.stream_model.specs.Fitting.{EventsFit, IsFitting}
use Rattle.stream_model.specs.Operators.{Operator}
use Rattle.stream_model.specs.PortEvents.{port_events}
use Rattle.stream_model.specs.PortLaws.{has_connections}
use Rattle.stream_model.specs.Stream.{Event}
use Rattle.connection_counts.specs.Counting.{CountsOpen}

-- its clauses and its events fit, its connections are counted, and by its ports it stands for what came by these
pub record StandsFor (op : Operator) (by_ports : List Event → Type 0) (h : List Event) (own open_of : List ℕ) (left outputs : ℕ) : Type 0 where
  pub fitting : IsFitting op
  pub connected : has_connections op ≡ true
  pub outs : outputs ≡ length op.outs
  pub events : EventsFit op h
  pub counts : CountsOpen op h own open_of left
  pub stands : by_ports (port_events op h)
