-- Texts that are written one after the other.
use Rattle.std.proofs.Common.{◌≡◌, ℕ, Bool, true, false, IsTrue, List, [], ◌∷◌, ◌++◌, Option, Some, None, refl, ap, sym, ◌∙◌, inl, inr}
use Rattle.std.proofs.Common.{append_assoc, append-nil}
use Rattle.std.specs.Prelude.{is_ok, flat_map, All, Result, Ok, Err, OnOk, OnErr}
use Rattle.std.specs.Io.KnownBytes.{Keeps}
use Rattle.std.proofs.KnownBytes.{Appends-nil, Appends-trans, Consumes-nil, Consumes-trans}
use Rattle.std.proofs.lemmas.Grind.{flat_map-append}
use Rattle.std.proofs.lemmas.List.Elements.{All-head, All-tail}
use Rattle.fast_text.specs.declared.line_writer.LineWriter.{LineWriter}
use Rattle.fast_text.specs.meaning.Streams.{Reads, Appends, AppendsFront}
use Rattle.fast_stream.specs.meaning.Events.{EventData}
use Rattle.fast_lines.specs.meaning.Values.{HoldsBytes}
use Rattle.fast_text.specs.declared.line_sink.LineSink.{LineSink}
use Rattle.fast_text.specs.meaning.LineSink.{whole_line, TakesLine, StopsInLine}
use Rattle.fast_text.specs.declared.streams.Failed.{Failed}
use Rattle.fast_text.specs.meaning.Room.{kept_in}
use Rattle.fast_text.specs.meaning.LineWriter.{Point, Puts, HasPut, Writes, IsFresh, Finishes, point_of}

-- no text
pub appends_none : (old : Option (List ℕ)) → Appends old old []
appends_none old = record { after = Appends-nil old }

-- one text and then another
pub appends_both : (old mid new : Option (List ℕ)) (a b : List ℕ) → Appends old mid a → Appends mid new b → Appends old new (a ++ b)
appends_both old mid new a b first second = record { after = Appends-trans old mid new a b first.after second.after }

-- a text, and then nothing
pub appends_no_more : (old mid new : Option (List ℕ)) (a : List ℕ) → Appends old mid a → Appends mid new [] → Appends old new a
appends_no_more old mid new a first second = rw (sym (append-nil a)) (appends_both old mid new a [] first second)

-- What was known stays as it was: nothing is added to it.
pub appends_kept : (old new : Option (List ℕ)) → Keeps old new → Appends old new []
appends_kept None new h = record { after = tt }
appends_kept (Some xs) None h = absurd h
appends_kept (Some xs) (Some ys) h = record { after = h ∙ sym (append-nil xs) }

-- nothing is read
pub reads_none : (old : Option (List ℕ)) → Reads old old []
reads_none old = record { before = Consumes-nil old }

-- one text and then another
pub reads_both : (old mid new : Option (List ℕ)) (a b : List ℕ) → Reads old mid a → Reads mid new b → Reads old new (a ++ b)
reads_both old mid new a b first second = record { before = Consumes-trans old mid new a b first.before second.before }

-- a text, and then nothing
pub reads_no_more : (old mid new : Option (List ℕ)) (a : List ℕ) → Reads old mid a → Reads mid new [] → Reads old new a
reads_no_more old mid new a first second = rw (sym (append-nil a)) (reads_both old mid new a [] first second)

-- A front of the second text is behind the whole of the first.
pub front_of_second : (old mid new : Option (List ℕ)) (a b : List ℕ) → Appends old mid a → AppendsFront mid new b → AppendsFront old new (a ++ b)
front_of_second old mid new a b first second = record {
  front = a ++ second.front;
  rest = second.rest;
  is = ap (λ (xs : List ℕ). a ++ xs) second.is ∙ sym (append_assoc a second.front second.rest);
  added = appends_both old mid new a second.front first second.added;
}

-- the same text
put_same : (begun : Option (List ℕ)) (had_failed : Bool) (a b : List ℕ) (p : Point) → a ≡ b → HasPut begun had_failed a p → HasPut begun had_failed b p
put_same begun had_failed a b p same h = rw (← same) h

apart : true ≡ false → ⊥
apart h = cc

-- one text and then another
pub puts_both : (p q r : Point) (a b : List ℕ) → Puts p a q → Puts q b r → Puts p (a ++ b) r
puts_both p q r a b first second begun had_failed before h =
    put_same begun had_failed ((before ++ a) ++ b) (before ++ (a ++ b)) r (append_assoc before a b)
    (second begun had_failed (before ++ a) (first begun had_failed before h))

-- What was kept is written, and the text behind it.
pub puts_written : (p q : Point) (text whole : List ℕ) → p.is_writing ≡ true → q.is_writing ≡ true → q.kept ≡ [] → whole ≡ p.kept ++ text
    → Appends p.written q.written whole → q.failed ≡ p.failed → Puts p text q
puts_written p q text whole was_writing writing kept whole_is added failed begun had_failed before h = record {
  how =
      elim h.how [
        | inl f ↦ inl (
          writing,
          (
            f.1.0 ++ whole,
            ap (λ (xs : List ℕ). xs ++ text) f.1.1 ∙ append_assoc f.1.0 p.kept text ∙ ap (λ (xs : List ℕ). f.1.0 ++ xs) (sym whole_is)
                ∙ sym (append-nil (f.1.0 ++ whole)) ∙ ap (λ (xs : List ℕ). (f.1.0 ++ whole) ++ xs) (sym kept),
            appends_both begun p.written q.written f.1.0 whole f.1.2 added,
          ),
          failed ∙ f.2,
        )
        | inr f ↦ absurd (apart (sym was_writing ∙ f.0))
      ];
}

-- The target fails when it has written a front of what was kept and the text behind it.
pub puts_failing : (p q : Point) (text whole : List ℕ) → p.is_writing ≡ true → q.is_writing ≡ false → whole ≡ p.kept ++ text
    → AppendsFront p.written q.written whole → IsTrue q.failed → Puts p text q
puts_failing p q text whole was_writing writing whole_is added failed begun had_failed before h = record {
  how =
      elim h.how [
        | inl f ↦
            let all : before ++ text ≡ f.1.0 ++ whole = ap (λ (xs : List ℕ). xs ++ text) f.1.1 ∙ append_assoc f.1.0 p.kept text
            ∙ ap (λ (xs : List ℕ). f.1.0 ++ xs) (sym whole_is) in
            inr (writing, rw all (front_of_second begun p.written q.written f.1.0 whole f.1.2 added), failed)
        | inr f ↦ absurd (apart (sym was_writing ∙ f.0))
      ];
}

-- A front of a text is a front of the text with more behind it.
front_of_more : (old new : Option (List ℕ)) (a b : List ℕ) → AppendsFront old new a → AppendsFront old new (a ++ b)
front_of_more old new a b h = record {
  front = h.front;
  rest = h.rest ++ b;
  is = ap (λ (xs : List ℕ). xs ++ b) h.is ∙ append_assoc h.front h.rest b;
  added = h.added;
}

-- The target has failed, and nothing more is written.
puts_held_back : (p q : Point) (text : List ℕ) → p.is_writing ≡ false → q.is_writing ≡ false → q.written ≡ p.written → q.failed ≡ p.failed → Puts p text q
puts_held_back p q text was_writing writing written failed begun had_failed before h = record {
  how =
      elim h.how [
        | inl f ↦ absurd (apart (sym f.0 ∙ was_writing))
        | inr f ↦ inr (writing, rw written (front_of_more begun p.written before text f.1), rw failed f.2)
      ];
}

-- The text is kept behind what was kept, and nothing is written.
puts_kept : (p q : Point) (text : List ℕ) → q.is_writing ≡ p.is_writing → q.written ≡ p.written → q.failed ≡ p.failed → q.kept ≡ p.kept ++ text → Puts p text q
puts_kept p q text writing written failed kept begun had_failed before h = record {
  how =
      elim h.how [
        | inl f ↦ inl (
          writing ∙ f.0,
          (
            f.1.0,
            ap (λ (xs : List ℕ). xs ++ text) f.1.1 ∙ append_assoc f.1.0 p.kept text ∙ ap (λ (xs : List ℕ). f.1.0 ++ xs) (sym kept),
            rw written f.1.2,
          ),
          failed ∙ f.2,
        )
        | inr f ↦ inr (writing ∙ f.0, rw written (front_of_more begun p.written before text f.1), rw failed f.2)
      ];
}

-- one text and then another
pub writes_both : {T : Type 0} {written : T → Option (List ℕ)} {failed : T → Bool} {s t u : LineWriter T} {a b : List ℕ}
    → Writes written failed s a t → Writes written failed t b u → Writes written failed s (a ++ b) u
writes_both {T} {written} {failed} {s} {t} {u} {a} {b} first second = record {
  same_target = second.same_target ∙ first.same_target;
  same_room = second.same_room ∙ first.same_room;
  puts = puts_both (point_of written failed s) (point_of written failed t) (point_of written failed u) a b first.puts second.puts;
}

-- no text
pub writes_none : {T : Type 0} (written : T → Option (List ℕ)) (failed : T → Bool) (s : LineWriter T) → Writes written failed s [] s
writes_none written failed s = record {
  same_target = refl;
  same_room = refl;
  puts = λ begun had_failed before h. put_same begun had_failed before (before ++ []) (point_of written failed s) (sym (append-nil before)) h;
}

-- the same text
pub writes_same : {T : Type 0} {written : T → Option (List ℕ)} {failed : T → Bool} {s t : LineWriter T} {a b : List ℕ} → a ≡ b
    → Writes written failed s a t → Writes written failed s b t
writes_same same h = rw (← same) h

-- Texts are made of elements, and the text of some more is written.
pub writes_more : {T : Type 0} {written : T → Option (List ℕ)} {failed : T → Bool} {s t u : LineWriter T} (head : List ℕ)
    (text : ℕ → List ℕ) (front more : List ℕ) → Writes written failed s (head ++ flat_map text front) t
    → Writes written failed t (flat_map text more) u → Writes written failed s (head ++ flat_map text (front ++ more)) u
writes_more head text front more first second = writes_same
    (append_assoc head (flat_map text front) (flat_map text more)
    ∙ ap (λ (xs : List ℕ). head ++ xs) (sym (flat_map-append text front more))) (writes_both first second)

-- elements that are texts by themselves
pub plain_text : (text : ℕ → List ℕ) (cs : List ℕ) → All (λ c. text c ≡ c ∷ []) cs → flat_map text cs ≡ cs
plain_text text [] h = refl
plain_text text (c ∷ cs) h =
    let here : text c ≡ c ∷ [] = All-head (λ (d : ℕ). text d ≡ d ∷ []) c cs h in
    let rest : flat_map text cs ≡ cs = plain_text text cs (All-tail (λ (d : ℕ). text d ≡ d ∷ []) c cs h) in
    rw (here, rest) refl

-- Nothing is kept, and a text goes to the target.
pub written_directly : {T : Type 0} (written : T → Option (List ℕ)) (failed : T → Bool) (s t : LineWriter T) (text : List ℕ) (r : Result (Unit {0}) Failed)
    → kept_in s.kept.now ≡ [] → kept_in t.kept.now ≡ [] → t.target.ghost_name ≡ s.target.ghost_name → t.kept.ghost_name ≡ s.kept.ghost_name
    → is_ok s.outcome ≡ true → t.outcome ≡ r
    → OnOk r (Appends (written s.target.now) (written t.target.now) text) → OnErr r (AppendsFront (written s.target.now) (written t.target.now) text)
    → OnErr r (IsTrue (failed t.target.now)) → OnOk r (failed t.target.now ≡ failed s.target.now) → Writes written failed s text t
written_directly written failed s t text (Ok x) empty emptied same_target same_room writing outcome added part fails stays = record {
  same_target = same_target;
  same_room = same_room;
  puts = puts_written (point_of written failed s) (point_of written failed t) text text writing (ap is_ok outcome) emptied
      (ap (λ (xs : List ℕ). xs ++ text) (sym empty)) added stays;
}
written_directly written failed s t text (Err x) empty emptied same_target same_room writing outcome added part fails stays = record {
  same_target = same_target;
  same_room = same_room;
  puts = puts_failing (point_of written failed s) (point_of written failed t) text text writing (ap is_ok outcome)
      (ap (λ (xs : List ℕ). xs ++ text) (sym empty)) part fails;
}

-- What is kept is written, and no more is put.
pub written_on : {T : Type 0} (written : T → Option (List ℕ)) (failed : T → Bool) (s t : LineWriter T) (target : T) (text : List ℕ)
    (r : Result (Unit {0}) Failed)
    → text ≡ kept_in s.kept.now → kept_in t.kept.now ≡ [] → t.target.ghost_name ≡ s.target.ghost_name
    → t.kept.ghost_name ≡ s.kept.ghost_name → is_ok s.outcome ≡ true → t.target.now ≡ target → t.outcome ≡ r
    → OnOk r (Appends (written s.target.now) (written target) text) → OnErr r (AppendsFront (written s.target.now) (written target) text)
    → OnErr r (IsTrue (failed target)) → OnOk r (failed target ≡ failed s.target.now) → Writes written failed s [] t
written_on written failed s t target text (Ok x) all emptied same_target same_room writing moved outcome added part fails stays = record {
  same_target = same_target;
  same_room = same_room;
  puts = puts_written (point_of written failed s) (point_of written failed t) [] text writing (ap is_ok outcome) emptied
      (all ∙ sym (append-nil (kept_in s.kept.now))) (rw moved added) (ap failed moved ∙ stays);
}
written_on written failed s t target text (Err x) all emptied same_target same_room writing moved outcome added part fails stays = record {
  same_target = same_target;
  same_room = same_room;
  puts = puts_failing (point_of written failed s) (point_of written failed t) [] text writing (ap is_ok outcome)
      (all ∙ sym (append-nil (kept_in s.kept.now))) (rw moved part) (rw moved fails);
}

-- The target has failed before, and a text is not written.
pub held_back : {T : Type 0} (written : T → Option (List ℕ)) (failed : T → Bool) (s t : LineWriter T) (text : List ℕ)
    → t.target.ghost_name ≡ s.target.ghost_name → t.kept.ghost_name ≡ s.kept.ghost_name → is_ok s.outcome ≡ false
    → t.target.now ≡ s.target.now → t.outcome ≡ s.outcome → Writes written failed s text t
held_back written failed s t text same_target same_room stopped target outcome = record {
  same_target = same_target;
  same_room = same_room;
  puts = puts_held_back (point_of written failed s) (point_of written failed t) text stopped (ap is_ok outcome ∙ stopped)
      (ap written target) (ap failed target);
}

-- A text is kept, and nothing is written.
pub put_kept : {T : Type 0} (written : T → Option (List ℕ)) (failed : T → Bool) (s t : LineWriter T) (text : List ℕ)
    → t.target.ghost_name ≡ s.target.ghost_name → t.kept.ghost_name ≡ s.kept.ghost_name → kept_in t.kept.now ≡ kept_in s.kept.now ++ text
    → t.target.now ≡ s.target.now → t.outcome ≡ s.outcome → Writes written failed s text t
put_kept written failed s t text same_target same_room kept target outcome = record {
  same_target = same_target;
  same_room = same_room;
  puts = puts_kept (point_of written failed s) (point_of written failed t) text (ap is_ok outcome) (ap written target) (ap failed target) kept;
}

-- What was kept is written, and nothing more is put.
pub finished : {T : Type 0} {written : T → Option (List ℕ)} {failed : T → Bool} {s t : LineWriter T} → Writes written failed s [] t
    → kept_in t.kept.now ≡ [] → Finishes written failed s t t.outcome
finished {T} {written} {failed} {s} {t} h empty = record {
  same_target = h.same_target;
  same_room = h.same_room;
  whole = on_ok t.outcome refl;
  part = on_err t.outcome refl;
}
  where
    behind : (begun : Option (List ℕ)) (had_failed : Bool) (text : List ℕ) → HasPut begun had_failed text (point_of written failed s)
        → HasPut begun had_failed text (point_of written failed t)
    behind begun had_failed text stands = put_same begun had_failed (text ++ []) text (point_of written failed t) (append-nil text)
        (h.puts begun had_failed text stands)

    front_is : (text front : List ℕ) → text ≡ front ++ kept_in t.kept.now → text ≡ front
    front_is text front e = e ∙ ap (λ (xs : List ℕ). front ++ xs) empty ∙ append-nil front

    on_ok : (r : Result (Unit {0}) Failed) → t.outcome ≡ r
        → OnOk r ((begun : Option (List ℕ)) (had_failed : Bool) (text : List ℕ) → HasPut begun had_failed text (point_of written failed s)
        → Appends begun (written t.target.now) text × (failed t.target.now ≡ had_failed))
    on_ok (Err x) e = tt
    on_ok (Ok x) e = λ begun had_failed text stands. elim (behind begun had_failed text stands).how [
      | inl f ↦ (rw (front_is text f.1.0 f.1.1) f.1.2, f.2)
      | inr f ↦ absurd (apart (sym (ap is_ok e) ∙ f.0))
    ]

    on_err : (r : Result (Unit {0}) Failed) → t.outcome ≡ r
        → OnErr r ((begun : Option (List ℕ)) (had_failed : Bool) (text : List ℕ) → HasPut begun had_failed text (point_of written failed s)
        → AppendsFront begun (written t.target.now) text × IsTrue (failed t.target.now))
    on_err (Ok x) e = tt
    on_err (Err x) e = λ begun had_failed text stands. elim (behind begun had_failed text stands).how [
      | inl f ↦ absurd (apart (sym f.0 ∙ ap is_ok e))
      | inr f ↦ (f.1, f.2)
    ]

-- a writer that keeps nothing
pub put_fresh : {T : Type 0} (written : T → Option (List ℕ)) (failed : T → Bool) (s : LineWriter T) → IsFresh s
    → HasPut (written s.target.now) (failed s.target.now) [] (point_of written failed s)
put_fresh written failed s fresh = record { how = inl (ap is_ok fresh.is_open, ([], sym fresh.empty, appends_none (written s.target.now)), refl) }

-- from a writer that begins to one that has written all
pub ended_whole : {T : Type 0} {written : T → Option (List ℕ)} {failed : T → Bool} {s t u : LineWriter T} {r : Result (Unit {0}) Failed} {text : List ℕ}
    → IsFresh s → Writes written failed s text t → Finishes written failed t u r → r ≡ Ok tt
    → Appends (written s.target.now) (written u.target.now) text × (failed u.target.now ≡ failed s.target.now)
ended_whole {T} {written} {failed} {s} {t} {u} {r} {text} fresh h end ok = on_ok r ok end.whole
  where
    put : HasPut (written s.target.now) (failed s.target.now) text (point_of written failed t)
    put = h.puts (written s.target.now) (failed s.target.now) [] (put_fresh written failed s fresh)

    on_ok : (r : Result (Unit {0}) Failed) → r ≡ Ok tt → OnOk r
        ((begun : Option (List ℕ)) (had_failed : Bool) (xs : List ℕ) → HasPut begun had_failed xs (point_of written failed t)
        → Appends begun (written u.target.now) xs × (failed u.target.now ≡ had_failed))
        → Appends (written s.target.now) (written u.target.now) text × (failed u.target.now ≡ failed s.target.now)
    on_ok (Ok x) e w = w (written s.target.now) (failed s.target.now) text put
    on_ok (Err x) e w = absurd (cc)

-- from a writer that begins to one that has failed
pub ended_short : {T : Type 0} {written : T → Option (List ℕ)} {failed : T → Bool} {s t u : LineWriter T} {r : Result (Unit {0}) Failed}
    {text : List ℕ} (e : Failed)
    → IsFresh s → Writes written failed s text t → Finishes written failed t u r → r ≡ Err e
    → AppendsFront (written s.target.now) (written u.target.now) text × IsTrue (failed u.target.now)
ended_short {T} {written} {failed} {s} {t} {u} {r} {text} e fresh h end failing = on_err r failing end.part
  where
    put : HasPut (written s.target.now) (failed s.target.now) text (point_of written failed t)
    put = h.puts (written s.target.now) (failed s.target.now) [] (put_fresh written failed s fresh)

    on_err : (r : Result (Unit {0}) Failed) → r ≡ Err e → OnErr r
        ((begun : Option (List ℕ)) (had_failed : Bool) (xs : List ℕ) → HasPut begun had_failed xs (point_of written failed t)
        → AppendsFront begun (written u.target.now) xs × IsTrue (failed u.target.now))
        → AppendsFront (written s.target.now) (written u.target.now) text × IsTrue (failed u.target.now)
    on_err (Ok x) e w = absurd (cc)
    on_err (Err x) e w = w (written s.target.now) (failed s.target.now) text put

-- a sink's line, which is written
pub takes_line : {T : Type 0} {written : T → Option (List ℕ)} {failed : T → Bool} {s t u : LineWriter T} {r : Result (Unit {0}) Failed}
    (old new : LineSink T) (e : EventData)
    → new.templates.now ≡ old.templates.now → new.target.ghost_name ≡ old.target.ghost_name → s.target.now ≡ old.target.now
    → new.target.now ≡ u.target.now → IsFresh s
    → HoldsBytes e → Writes written failed s (whole_line old e) t → Finishes written failed t u r → r ≡ Ok tt → TakesLine written failed old e new
takes_line {T} {written} {failed} {s} {t} {u} {r} old new e set same_target begins ends fresh holds h end ok =
    let w = ended_whole fresh h end ok in
    record { set = set; same_target = same_target; line = rw (← begins, ends) w.0; holds = holds; as_before = rw (← begins, ends) w.1 }

-- a front of a sink's line
pub stops_in_line : {T : Type 0} {written : T → Option (List ℕ)} {failed : T → Bool} {s t u : LineWriter T} {r : Result (Unit {0}) Failed}
    (old new : LineSink T) (e : EventData) (f : Failed)
    → new.templates.now ≡ old.templates.now → new.target.ghost_name ≡ old.target.ghost_name → s.target.now ≡ old.target.now
    → new.target.now ≡ u.target.now → IsFresh s
    → Writes written failed s (whole_line old e) t → Finishes written failed t u r → r ≡ Err f → StopsInLine written failed old e new
stops_in_line {T} {written} {failed} {s} {t} {u} {r} old new e f set same_target begins ends fresh h end failing =
    let w = ended_short f fresh h end failing in
    record { set = set; same_target = same_target; front = rw (← begins, ends) w.0; has_failed = rw ends w.1 }
