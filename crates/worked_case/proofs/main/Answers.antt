use lib.ListN.{length-replicate}
use Rattle.std.proofs.Common.{ℕ}
use Rattle.worked_case.proofs.CaseLaws.{case_countable, case_range, case_room}
use Rattle.worked_case.proofs.main.Goals as goal

pub count_shares-needs-requires : goal.count_shares-needs-requires
count_shares-needs-requires c = case_countable

pub write_circuit-requires : goal.write_circuit-requires
write_circuit-requires c = (case_range c.count_shares-needs.ensures, case_room _ (length-replicate {A = ℕ} 68 0))
