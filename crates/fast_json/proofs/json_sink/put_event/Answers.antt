use Rattle.fast_text.proofs.Writing.{writes_both}
use Rattle.fast_json.proofs.json_sink.put_event.Goals as goal

pub returns-in-MessageStart : goal.returns-in-MessageStart
returns-in-MessageStart g c = rw c.in-MessageStart.is c.put_message.ensures

pub returns-in-Field : goal.returns-in-Field
returns-in-Field g c = rw c.in-Field.is (writes_both c.put_key.ensures c.put_value.ensures)

pub returns-in-GroupStart : goal.returns-in-GroupStart
returns-in-GroupStart g c = rw c.in-GroupStart.is (writes_both c.put_key-in-GroupStart.ensures c.put.ensures)

pub returns-in-SequenceStart : goal.returns-in-SequenceStart
returns-in-SequenceStart g c = rw c.in-SequenceStart.is (writes_both c.put_key-in-SequenceStart.ensures c.put-in-SequenceStart.ensures)

pub returns-in-ElementStart : goal.returns-in-ElementStart
returns-in-ElementStart g c = rw c.in-ElementStart.is (writes_both c.put_comma.ensures c.put-in-ElementStart.ensures)
