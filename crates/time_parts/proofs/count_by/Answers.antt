use Rattle.time_parts.proofs.Exits.{count-time, count-ltime, count_none, count-tod, count-ltod, count-dt, count-ldt}
use Rattle.time_parts.proofs.count_by.Goals as goal

pub returns-in-Time : goal.returns-in-Time
returns-in-Time c = search (count-time, count-ltime, count_none, count-tod, count-ltod, count-dt, count-ldt)

pub returns-in-LTime : goal.returns-in-LTime
returns-in-LTime c = search (count-time, count-ltime, count_none, count-tod, count-ltod, count-dt, count-ldt)

pub returns-in-TimeOfDay : goal.returns-in-TimeOfDay
returns-in-TimeOfDay c = search (count-time, count-ltime, count_none, count-tod, count-ltod, count-dt, count-ldt)

pub returns-in-LTimeOfDay : goal.returns-in-LTimeOfDay
returns-in-LTimeOfDay c = search (count-time, count-ltime, count_none, count-tod, count-ltod, count-dt, count-ldt)

pub returns-in-DateTime : goal.returns-in-DateTime
returns-in-DateTime c = search (count-time, count-ltime, count_none, count-tod, count-ltod, count-dt, count-ldt)

pub returns-in-LDateTime : goal.returns-in-LDateTime
returns-in-LDateTime c = search (count-time, count-ltime, count_none, count-tod, count-ltod, count-dt, count-ldt)

pub returns-in-NoTime : goal.returns-in-NoTime
returns-in-NoTime c = search (count-time, count-ltime, count_none, count-tod, count-ltod, count-dt, count-ldt)
