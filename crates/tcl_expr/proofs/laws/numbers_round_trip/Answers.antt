use Rattle.tcl_expr.proofs.Numbers.{number_reads, number_written}
use Rattle.tcl_expr.proofs.laws.numbers_round_trip.Goals as goal

pub returns-clause-reads : goal.returns-clause-reads
returns-clause-reads c = number_reads

pub returns-clause-one : goal.returns-clause-one
returns-clause-one c = number_written
