use Rattle.time_parts.proofs.Exits.{parts-time, parts-ltime, parts_none, parts-tod, parts-tod-late, parts-ltod, parts-ltod-late, parts-dt, parts-dt-late, parts-ldt}
use borrow.Author.Rules.{rules}
use Rattle.time_parts.proofs.parts_by.Goals as goal

pub returns-then-count-lt86400000 : goal.returns-then-count-lt86400000
returns-then-count-lt86400000 c = search (parts-time, parts-ltime, parts_none, parts-tod, parts-tod-late, parts-ltod, parts-ltod-late, parts-dt, parts-dt-late, parts-ldt, rules)

pub returns-in-TimeOfDay : goal.returns-in-TimeOfDay
returns-in-TimeOfDay c = search (parts-time, parts-ltime, parts_none, parts-tod, parts-tod-late, parts-ltod, parts-ltod-late, parts-dt, parts-dt-late, parts-ldt, rules)

pub returns-then-count-lt-DAY : goal.returns-then-count-lt-DAY
returns-then-count-lt-DAY c = search (parts-time, parts-ltime, parts_none, parts-tod, parts-tod-late, parts-ltod, parts-ltod-late, parts-dt, parts-dt-late, parts-ldt, rules)

pub returns-in-LTimeOfDay : goal.returns-in-LTimeOfDay
returns-in-LTimeOfDay c = search (parts-time, parts-ltime, parts_none, parts-tod, parts-tod-late, parts-ltod, parts-ltod-late, parts-dt, parts-dt-late, parts-ldt, rules)

pub returns-then-count-le-MAX32 : goal.returns-then-count-le-MAX32
returns-then-count-le-MAX32 c = search (parts-time, parts-ltime, parts_none, parts-tod, parts-tod-late, parts-ltod, parts-ltod-late, parts-dt, parts-dt-late, parts-ldt, rules)

pub returns-in-DateTime : goal.returns-in-DateTime
returns-in-DateTime c = search (parts-time, parts-ltime, parts_none, parts-tod, parts-tod-late, parts-ltod, parts-ltod-late, parts-dt, parts-dt-late, parts-ldt, rules)

pub returns-in-Time : goal.returns-in-Time
returns-in-Time c = search (parts-time, parts-ltime, parts_none, parts-tod, parts-tod-late, parts-ltod, parts-ltod-late, parts-dt, parts-dt-late, parts-ldt, rules)

pub returns-in-LTime : goal.returns-in-LTime
returns-in-LTime c = search (parts-time, parts-ltime, parts_none, parts-tod, parts-tod-late, parts-ltod, parts-ltod-late, parts-dt, parts-dt-late, parts-ldt, rules)

pub returns-in-LDateTime : goal.returns-in-LDateTime
returns-in-LDateTime c = search (parts-time, parts-ltime, parts_none, parts-tod, parts-tod-late, parts-ltod, parts-ltod-late, parts-dt, parts-dt-late, parts-ldt, rules)

pub returns-in-NoTime : goal.returns-in-NoTime
returns-in-NoTime c = search (parts-time, parts-ltime, parts_none, parts-tod, parts-tod-late, parts-ltod, parts-ltod-late, parts-dt, parts-dt-late, parts-ldt, rules)
