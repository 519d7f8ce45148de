-- What was shown of a stream is read again.
use Rattle.std.proofs.Common.{◌≡◌, ℕ, Bool, List, Option, Result, Ok, Err, ap, ◌∙◌}
use Rattle.std.specs.declared.alloc.Global.{Global}
use Rattle.std.specs.declared.vec.Vec.{Vec}
use Rattle.toml.specs.Data.{Members}
use Rattle.fast_value.specs.declared.messages.Message.{Message}
use Rattle.fast_value.specs.declared.settings.Limits.{Limits}
use Rattle.fast_notation.specs.meaning.Checked.{IsTree}
use Rattle.fast_template.specs.declared.sets.Templates.{Templates}
use Rattle.fast_template.specs.meaning.Flat.{nodes_of, tree_of}
use Rattle.fast_dict.specs.meaning.EntryTexts.{HasLongInitial}
use Rattle.fast_decoder.specs.meaning.Decoding.{AreBadLimits}
use Rattle.fast_laws.proofs.nodes.Granting.{set_is_granted}
use Rattle.fast_messages.specs.declared.faults.TextFault.{TextFault}
use Rattle.fast_messages.specs.meaning.Back.{IsRead}
use Rattle.fast_messages.specs.meaning.Reading.{closed}
use Rattle.fast_messages.proofs.readings.Back.{lines_closed}
use Rattle.fast_messages.proofs.readings.ReadAgain.{shown_lines_are_read}
use Rattle.fast_command.specs.declared.faults.ShowEnd.{ShowEnd}
use Rattle.fast_command.specs.declared.faults.ShowEnd.TheVariants.{Good}
use Rattle.fast_command.specs.declared.faults.RunFault.{RunFault}
use Rattle.fast_convert.specs.meaning.ThereAndBack.{IsAnswerOfShow, IsShownAndRead}

-- a good answer is no fault
no_fault : (e : ShowEnd) (f : RunFault) → Ok e ≡ Err f → ⊥
no_fault e f h = absurd (cc)

pub shown_is_read : (document : Members) (set : Templates) (l : Limits) (hex : Bool) (left : Option (List ℕ)) (max_reads : ℕ)
    (reader_failed writer_failed : Bool) (text out : List ℕ) (r : Result (Vec Message Global) TextFault)
    → IsTree document (tree_of set) → IsAnswerOfShow set l hex left max_reads reader_failed writer_failed text out (Ok Good)
    → IsRead (tree_of set) out r → IsShownAndRead set l hex text r
shown_is_read document set l hex left max_reads rf wf text out r tree answer read =
    let (b, es, of, is, end) = answer.shown in
    let fit : ¬ (AreBadLimits l) = λ bad. no_fault Good _ (answer.bad_limits bad) in
    let short : ¬ (HasLongInitial l.max_text (nodes_of set)) = λ long. no_fault Good _ (answer.long_initial (fit, long)) in
    record {
      bytes = b;
      events = es;
      of_text = of;
      read = shown_lines_are_read document set l b es out r tree (set_is_granted document set l tree short) of.stream of.holds
          (ap closed is ∙ lines_closed (tree_of set) es) read;
    }
