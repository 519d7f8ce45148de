use Rattle.std.proofs.Common.{◌∙◌, refl, ap}
use Rattle.fast_text.proofs.Writing.{writes_both, writes_same}
use Rattle.fast_json.specs.meaning.Json.{before_last}
use Rattle.fast_json.specs.meaning.JsonSink.{target_of}
use Rattle.fast_json.proofs.Eventful.{is_put}
use Rattle.fast_json.proofs.json_sink.JsonSink.put_fault.Goals as goal

pub returns-clause-written : goal.returns-clause-written
returns-clause-written g c =
    let name = writes_same (c.as_bytes.ensures.value ∙ c.name.ensures) c.put-2.ensures in
    let begun = writes_same (ap before_last c.as_slice.ensures) c.put_open.ensures in
    let all = writes_both (writes_both (writes_both (writes_both (writes_both begun c.put.ensures) name) c.put-3.ensures)
    c.put_unsigned.ensures) c.put-4.ensures in
    (is_put (target_of c.args.self.now) c.finish-outcome.new.self.target.now c.finish-outcome.result c.new-line.ensures.as_it_is refl
    c.new-line.ensures.fresh all c.finish-outcome.ensures).whole

pub returns-clause-part : goal.returns-clause-part
returns-clause-part g c =
    let name = writes_same (c.as_bytes.ensures.value ∙ c.name.ensures) c.put-2.ensures in
    let begun = writes_same (ap before_last c.as_slice.ensures) c.put_open.ensures in
    let all = writes_both (writes_both (writes_both (writes_both (writes_both begun c.put.ensures) name) c.put-3.ensures)
    c.put_unsigned.ensures) c.put-4.ensures in
    (is_put (target_of c.args.self.now) c.finish-outcome.new.self.target.now c.finish-outcome.result c.new-line.ensures.as_it_is refl
    c.new-line.ensures.fresh all c.finish-outcome.ensures).part

pub returns-clause-fails : goal.returns-clause-fails
returns-clause-fails g c =
    let name = writes_same (c.as_bytes.ensures.value ∙ c.name.ensures) c.put-2.ensures in
    let begun = writes_same (ap before_last c.as_slice.ensures) c.put_open.ensures in
    let all = writes_both (writes_both (writes_both (writes_both (writes_both begun c.put.ensures) name) c.put-3.ensures)
    c.put_unsigned.ensures) c.put-4.ensures in
    (is_put (target_of c.args.self.now) c.finish-outcome.new.self.target.now c.finish-outcome.result c.new-line.ensures.as_it_is refl
    c.new-line.ensures.fresh all c.finish-outcome.ensures).fails

pub returns-clause-stays : goal.returns-clause-stays
returns-clause-stays g c =
    let name = writes_same (c.as_bytes.ensures.value ∙ c.name.ensures) c.put-2.ensures in
    let begun = writes_same (ap before_last c.as_slice.ensures) c.put_open.ensures in
    let all = writes_both (writes_both (writes_both (writes_both (writes_both begun c.put.ensures) name) c.put-3.ensures)
    c.put_unsigned.ensures) c.put-4.ensures in
    (is_put (target_of c.args.self.now) c.finish-outcome.new.self.target.now c.finish-outcome.result c.new-line.ensures.as_it_is refl
    c.new-line.ensures.fresh all c.finish-outcome.ensures).stays
