-- What holds of links at any time: each has a queue with room, and the links of each element are listed.
use Rattle.std.specs.Prelude.{◌≡◌, ◌<◌, ◌≤◌, ◌^◌, ℕ, List, length, slice_get, Some}
use Rattle.stream_model.specs.declared.shape.ShapeLink.{ShapeLink}
use Rattle.link_queues.specs.Links.{Waiting}
use Rattle.link_queues.specs.Ends.{Lists, receiver, sender}

pub record IsKept (ends : List ShapeLink) (queues : List Waiting) (capacity : ℕ)
    (entering leading : List (List ℕ)) : Type 0 where
  pub few : length ends < 2 ^ 32
  pub many : length queues ≡ length ends
  pub room : (l : ℕ) (w : Waiting) → slice_get queues l ≡ Some w → capacity ≤ w.room
  pub entered : Lists receiver ends entering
  pub led : Lists sender ends leading
  pub same : length leading ≡ length entering
