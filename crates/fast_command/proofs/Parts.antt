-- Lines that are written by a writer of their own.
use Rattle.std.proofs.Common.{◌≡◌, ◌∙◌, ◌++◌, Bool, ℕ, IsTrue, List, Option, Result, Ok, Err, refl, ap, append_assoc}
use Rattle.std.specs.Prelude.{OnErr, OnOk}
use Rattle.fast_text.specs.declared.streams.Failed.{Failed}
use Rattle.fast_text.specs.declared.line_writer.LineWriter.{LineWriter}
use Rattle.fast_text.specs.meaning.Streams.{Appends, AppendsFront}
use Rattle.fast_text.specs.meaning.LineWriter.{Writes, IsFresh, Finishes}
use Rattle.fast_text.proofs.Writing.{appends_both, ended_short, ended_whole, front_of_second}

-- What became of a text: it was written, or a front of it was and the target failed.
pub record IsPut {T : Type 0} (written : T → Option (List ℕ)) (failed : T → Bool) (begun ended : T) (text : List ℕ)
    (r : Result (Unit {0}) Failed) : Type 0 where
  pub whole : OnOk r (Appends (written begun) (written ended) text)
  pub part : OnErr r (AppendsFront (written begun) (written ended) text)
  pub fails : OnErr r (IsTrue (failed ended))
  pub stays : OnOk r (failed ended ≡ failed begun)

-- from a writer that begins to one that has finished
pub is_put : {T : Type 0} {written : T → Option (List ℕ)} {failed : T → Bool} {s t u : LineWriter T} {text : List ℕ} (begun ended : T)
    (r : Result (Unit {0}) Failed)
    → s.target.now ≡ begun → ended ≡ u.target.now → IsFresh s → Writes written failed s text t → Finishes written failed t u r
    → IsPut written failed begun ended text r
is_put begun ended (Ok x) begins ends fresh h end =
    let w = ended_whole fresh h end refl in
    rw (← begins, ends) (record { whole = w.0; part = tt; fails = tt; stays = w.1 })
is_put begun ended (Err e) begins ends fresh h end =
    let w = ended_short e fresh h end refl in
    rw (← begins, ends) (record { whole = tt; part = w.0; fails = w.1; stays = tt })

-- a front of a text is a front of the text with more behind it
pub part_of_more : (old new : Option (List ℕ)) (a b : List ℕ) → AppendsFront old new a → AppendsFront old new (a ++ b)
part_of_more old new a b h = record {
  front = h.front;
  rest = h.rest ++ b;
  is = ap (λ (xs : List ℕ). xs ++ b) h.is ∙ append_assoc h.front h.rest b;
  added = h.added;
}

-- a whole text, and then another, or a front of it
pub then_whole : (old mid new : Option (List ℕ)) (a b : List ℕ) (r : Result (Unit {0}) Failed) → Appends old mid a
    → OnOk r (Appends mid new b) → OnOk r (Appends old new (a ++ b))
then_whole old mid new a b (Ok x) first second = appends_both old mid new a b first second
then_whole old mid new a b (Err e) first second = tt

pub then_part : (old mid new : Option (List ℕ)) (a b : List ℕ) (r : Result (Unit {0}) Failed) → Appends old mid a
    → OnErr r (AppendsFront mid new b) → OnErr r (AppendsFront old new (a ++ b))
then_part old mid new a b (Ok x) first second = tt
then_part old mid new a b (Err e) first second = front_of_second old mid new a b first second
