use Rattle.fast_rows.proofs.notes.put_note.Goals as goal

pub returns-in-Bits : goal.returns-in-Bits
returns-in-Bits g c = rw c.in-Bits.is c.put_map.ensures

pub returns-in-Absent : goal.returns-in-Absent
returns-in-Absent g c = rw c.in-Absent.is c.put_absent.ensures

pub returns-in-Waiting : goal.returns-in-Waiting
returns-in-Waiting g c = rw c.in-Waiting.is c.put_waiting.ensures
