use Rattle.machine.proofs.dispatching.on_pin.Goals as goal

pub returns-in-VmoPin : goal.returns-in-VmoPin
returns-in-VmoPin g c = rw c.in-VmoPin.is (rw c.new-range.ensures at c.vmo_pin.ensures)
