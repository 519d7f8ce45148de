use Rattle.std.proofs.Common.{◌∙◌, sym, subst, ℕ, List, ◌∷◌, ◌++◌, codes, ap}
use Rattle.fast_lines.specs.meaning.Forms.{IsNoForm}
use Rattle.std.proofs.lemmas.Bool.Decides.{Decides-eqb}
use Rattle.std.proofs.lemmas.Slice.Eq.{slice_eq-Decides}
use Rattle.std.specs.Prelude.{IfNone}
use Rattle.fast_lines.proofs.Arms.{not_both}
use Rattle.fast_lines.proofs.Words.{one_word, no_such_line, given_line, given_form, no_line}
use Rattle.fast_lines.proofs.forms.any_line.Goals as goal

pub returns-else-eq-clause-none : goal.returns-else-eq-clause-none
returns-else-eq-clause-none c d form h = one_word c.args.text.now c.in_default.ensures.none
    (λ e. not_both c.eq.result ((slice_eq-Decides Decides-eqb _ _ _ c.eq.ensures).1 (e ∙ sym c.as_slice.ensures)) c.if-eq.false) d h

pub returns-in-Other-clause-none : goal.returns-in-Other-clause-none
returns-in-Other-clause-none c d form h = no_such_line c.in-Some.word.now c.in-Some.rest.now c.in-Some.ensures.first
    (subst (λ k. IsNoForm k c.in-Some.rest.now) c.in-Other.ensures.keyword tt) d form (sym c.in-Some.ensures.parts ∙ h)

pub returns-in-Message-clause-line : goal.returns-in-Message-clause-line
returns-in-Message-clause-line c = given_line c.message_line.result (codes "message ") c.args.text.now c.in-Some.rest.now
    (c.in-Some.ensures.parts ∙ ap (λ (w : List ℕ). w ++ 0x20 ∷ c.in-Some.rest.now) c.in-Message.ensures.spelled) c.message_line.ensures.line

pub returns-in-Message-clause-form : goal.returns-in-Message-clause-form
returns-in-Message-clause-form c = given_form c.message_line.result (codes "message ") c.in-Some.rest.now c.message_line.ensures.line

pub returns-in-Message-clause-none : goal.returns-in-Message-clause-none
returns-in-Message-clause-none c = no_line c.message_line.result c.in-Some.word.now c.args.text.now c.in-Some.rest.now
    c.in-Some.ensures.parts c.in-Some.ensures.first (subst
    (λ k. IfNone c.message_line.result (IsNoForm k c.in-Some.rest.now)) c.in-Message.ensures.keyword c.message_line.ensures.none)

pub returns-in-Field-clause-line : goal.returns-in-Field-clause-line
returns-in-Field-clause-line c = given_line c.field_line.result (codes "field ") c.args.text.now c.in-Some.rest.now
    (c.in-Some.ensures.parts ∙ ap (λ (w : List ℕ). w ++ 0x20 ∷ c.in-Some.rest.now) c.in-Field.ensures.spelled) c.field_line.ensures.line

pub returns-in-Field-clause-form : goal.returns-in-Field-clause-form
returns-in-Field-clause-form c = given_form c.field_line.result (codes "field ") c.in-Some.rest.now c.field_line.ensures.line

pub returns-in-Field-clause-none : goal.returns-in-Field-clause-none
returns-in-Field-clause-none c = no_line c.field_line.result c.in-Some.word.now c.args.text.now c.in-Some.rest.now c.in-Some.ensures.parts
    c.in-Some.ensures.first (subst (λ k. IfNone c.field_line.result (IsNoForm k c.in-Some.rest.now)) c.in-Field.ensures.keyword
    c.field_line.ensures.none)

pub returns-in-Group-clause-line : goal.returns-in-Group-clause-line
returns-in-Group-clause-line c = given_line c.group_line.result (codes "group ") c.args.text.now c.in-Some.rest.now
    (c.in-Some.ensures.parts ∙ ap (λ (w : List ℕ). w ++ 0x20 ∷ c.in-Some.rest.now) c.in-Group.ensures.spelled) c.group_line.ensures.line

pub returns-in-Group-clause-form : goal.returns-in-Group-clause-form
returns-in-Group-clause-form c = given_form c.group_line.result (codes "group ") c.in-Some.rest.now c.group_line.ensures.line

pub returns-in-Group-clause-none : goal.returns-in-Group-clause-none
returns-in-Group-clause-none c = no_line c.group_line.result c.in-Some.word.now c.args.text.now c.in-Some.rest.now c.in-Some.ensures.parts
    c.in-Some.ensures.first (subst (λ k. IfNone c.group_line.result (IsNoForm k c.in-Some.rest.now)) c.in-Group.ensures.keyword
    c.group_line.ensures.none)

pub returns-in-Sequence-clause-line : goal.returns-in-Sequence-clause-line
returns-in-Sequence-clause-line c = given_line c.sequence_line.result (codes "sequence ") c.args.text.now c.in-Some.rest.now
    (c.in-Some.ensures.parts ∙ ap (λ (w : List ℕ). w ++ 0x20 ∷ c.in-Some.rest.now) c.in-Sequence.ensures.spelled)
    c.sequence_line.ensures.line

pub returns-in-Sequence-clause-form : goal.returns-in-Sequence-clause-form
returns-in-Sequence-clause-form c = given_form c.sequence_line.result (codes "sequence ") c.in-Some.rest.now c.sequence_line.ensures.line

pub returns-in-Sequence-clause-none : goal.returns-in-Sequence-clause-none
returns-in-Sequence-clause-none c = no_line c.sequence_line.result c.in-Some.word.now c.args.text.now c.in-Some.rest.now
    c.in-Some.ensures.parts c.in-Some.ensures.first (subst
    (λ k. IfNone c.sequence_line.result (IsNoForm k c.in-Some.rest.now)) c.in-Sequence.ensures.keyword c.sequence_line.ensures.none)
