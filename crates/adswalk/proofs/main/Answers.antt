use Rattle.printout.proofs.Room.{print_room}
use Rattle.adswalk.proofs.main.Goals as goal

pub slice_bounds-write_all-end : goal.slice_bounds-write_all-end
slice_bounds-write_all-end c = search print_room
