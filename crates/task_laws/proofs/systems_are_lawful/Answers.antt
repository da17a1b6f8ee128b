use Rattle.task_laws.proofs.Lawfuls.{laws}
use Rattle.task_laws.proofs.Equals.{periodic_itself}
use Rattle.task_laws.proofs.systems_are_lawful.Goals as goal

pub returns : goal.returns
returns c = record { lawful = λ pick L kind tasks T. laws pick kind tasks T L; periodic = periodic_itself }
