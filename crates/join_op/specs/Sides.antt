-- The histories by ports that a Join stands for: its two windows stand for what came on its ports.
use Rattle.std.specs.Prelude.{◌≡◌, true, List, [], Option}
use Rattle.spl_tree.specs.declared.code.Code.{Code}
use Rattle.spl_tree.specs.declared.code.Slot.{Slot}
use Rattle.language_model.specs.declared.checked.CheckedClauses.TheVariants as A
use Rattle.language_model.specs.declared.checked.Policy.{Policy}
use Rattle.language_model.specs.declared.env.Env.{Env}
use Rattle.stream_model.specs.Operators.{Operator}
use Rattle.stream_model.specs.PortEvents.{port_items}
use Rattle.stream_model.specs.Stream.{Event}
use Rattle.stream_model.specs.Windows.{partition_key, window_events}
use Rattle.window_policy.specs.declared.window.Window.{Window}
use Rattle.window_policy.specs.Standing.{Stands}
use Rattle.port_reacts.specs.PortReplies.{goes_on}
use Rattle.join_op.specs.Pairs.{IsReady}

-- each window stands for the items of its port, and there is room for a pair
pub record SidesStand (left right : Policy) (l r : Window) (env : Env) (h : List Event) : Type 0 where
  pub left_stands : Stands left.rule l (window_events (partition_key left []) (port_items 0 h))
  pub right_stands : Stands right.rule r (window_events (partition_key right []) (port_items 1 h))
  pub ready : IsReady env

-- while the operator hasn't ended by a fault, the windows of its clauses stand
pub record JoinStands (op : Operator) (condition : Option (Code Slot)) (output : Code Slot) (l r : Window) (env : Env) (h : List Event) : Type 0 where
  pub left : Policy
  pub right : Policy
  pub clauses : op.clauses ≡ A.Join left right condition output
  pub sides : goes_on op h ≡ true → SidesStand left right l r env h
