-- The faults of a book. This project's own.
use Rattle.std.specs.Prelude.{◌≡◌}
use Rattle.cs_schedule.specs.declared.plan.PlanFault.{PlanFault}
use Rattle.cs_schedule.specs.declared.plan.PlanFault.TheVariants as plan
use Rattle.cs_book.specs.declared.fault.ReserveFault.{ReserveFault}
use Rattle.cs_book.specs.declared.fault.ReserveFault.TheVariants as reserve

-- the fault of a plan, as a book answers it
abbrev pub IsOfPlan : PlanFault → ReserveFault → Type 0
IsOfPlan (plan.Breach breach) e = e ≡ reserve.Breach breach
IsOfPlan plan.Memory e = e ≡ reserve.Memory
