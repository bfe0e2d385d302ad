use Rattle.fault_laws.proofs.RunFaults.{faults_law, fault_names_law, row_fault_law, read_fault_law}
use Rattle.fault_laws.proofs.laws.run_faults_law.Goals as goal

pub returns : goal.returns
returns c = record { faults = faults_law; names = fault_names_law; rows = row_fault_law; reads = read_fault_law }
