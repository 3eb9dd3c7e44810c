-- `sheet_encode::put_damping` meets its contract.
use Rattle.sheet_encode.proofs.put_damping.Goals as goal

pub returns-in-CriticallyDamped : goal.returns-in-CriticallyDamped
returns-in-CriticallyDamped c = rw c.in-CriticallyDamped.is c.put_case_float.ensures

pub returns-in-Overdamped : goal.returns-in-Overdamped
returns-in-Overdamped c = rw c.in-Overdamped.is c.put_case_floats.ensures

pub returns-in-Underdamped : goal.returns-in-Underdamped
returns-in-Underdamped c = rw c.in-Underdamped.is c.put_case_floats-in-Underdamped.ensures
