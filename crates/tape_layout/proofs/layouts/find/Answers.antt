use Rattle.tape_layout.proofs.Finds.{found_some, found_none}
use Rattle.tape_layout.proofs.layouts.find.Goals as goal

pub returns-in-Some : goal.returns-in-Some
returns-in-Some c = λ from ops same next. found_some c.args.place ops from c.args.todo.now.items c.first_past.result c.in-Some.standing.now _ same next c.first_past.ensures.parts c.in-Some.ensures.item.3.0 c.in-Some.ensures.lookup c.bytes_at.ensures

pub returns-in-None : goal.returns-in-None
returns-in-None c = λ from ops same next. found_none c.args.place ops from c.args.todo.now.items c.first_past.result same next c.first_past.ensures.parts c.in-None.ensures.item.3
