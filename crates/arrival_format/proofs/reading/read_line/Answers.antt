use Rattle.std.proofs.lemmas.Bool.Decides.{Decides-eqb}
use Rattle.std.proofs.lemmas.Slice.Eq.{strip_prefix_is}
use Rattle.std.proofs.Common.{None, Some}
use Rattle.arrival_format.proofs.Lines.{line_of_name, no_line_of_name}
use Rattle.arrival_format.proofs.reading.read_line.Goals as goal

pub returns-in-Some-clause-read : goal.returns-in-Some-clause-read
returns-in-Some-clause-read c =
    line_of_name c.args.name.now c.args.bytes.now c.in-Some.numbers.now c.args.bound c.read_inputs.result
    (strip_prefix_is Decides-eqb c.args.bytes.now c.args.name.now (Some c.in-Some.numbers) c.in-Some.ensures.cases) c.read_inputs.ensures.read

pub returns-in-Some-clause-bad : goal.returns-in-Some-clause-bad
returns-in-Some-clause-bad c =
    λ bad. no_line_of_name c.args.name.now c.args.bytes.now c.in-Some.numbers.now c.args.bound
    (strip_prefix_is Decides-eqb c.args.bytes.now c.args.name.now (Some c.in-Some.numbers) c.in-Some.ensures.cases) (c.read_inputs.ensures.bad bad)

pub returns-in-None-clause-bad : goal.returns-in-None-clause-bad
returns-in-None-clause-bad c = λ bad inputs rest line. strip_prefix_is Decides-eqb c.args.bytes.now c.args.name.now None c.in-None.ensures.cases _ line.text
