use Rattle.language_laws.proofs.PlaceTyping.{place_reads_law}
use Rattle.language_laws.proofs.GivenPlaces.{name_place_law, place_given_law, place_refused_law}
use Rattle.language_laws.proofs.WrittenOut.{compound_law}
use Rattle.language_laws.proofs.ValueCalls.{value_call_law}
use Rattle.language_laws.proofs.ChangingCalls.{append_law, remove_law, clear_law}
use Rattle.language_laws.proofs.typing.changes_law.Goals as goal

pub returns : goal.returns
returns c = record {
  reads = place_reads_law;
  whole = name_place_law;
  given = place_given_law;
  not_mutable = place_refused_law;
  written_out = compound_law;
  valued = value_call_law;
  appends = append_law;
  removes = remove_law;
  clears = clear_law;
}
