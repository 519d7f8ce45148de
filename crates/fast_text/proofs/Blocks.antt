-- What is kept behind what a target has.
use borrow.Rule.Slice.PartMut.{put_mid}
use Rattle.std.proofs.Common.{◌≡◌, ℕ, ◌+◌, ◌≤◌, List, [], ◌++◌, Option, Some, None, refl, ap, sym, ◌∙◌, append-nil, append_assoc, length, take, drop, arith}
use Rattle.std.specs.Io.KnownBytes.{append_known}
use Rattle.std.proofs.KnownBytes.{append_known-moved}
use Rattle.std.proofs.lemmas.List.{take-append-drop, drop-drop, drop-append-le, length-take-le}
use Rattle.fast_text.specs.declared.block_writer.BlockWriter.{BlockWriter}
use Rattle.fast_text.specs.meaning.BlockWriter.{kept_of, target_of, with_kept}
use Rattle.fast_text.specs.meaning.Streams.{Appends}
use Rattle.fast_text.proofs.Kept.{kept_front}
use Rattle.fast_text.proofs.Writing.{appends_both, appends_kept}

-- nothing is kept
pub nothing_kept : (a : Option (List ℕ)) → append_known a [] ≡ a
nothing_kept None = refl
nothing_kept (Some xs) = ap (λ (ys : List ℕ). Some ys) (append-nil xs)

-- The target took the front of what was kept.
pub handed_on : (a b : Option (List ℕ)) (front rest all : List ℕ) → Appends a b front → all ≡ front ++ rest
    → Appends (append_known a all) (append_known b rest) []
handed_on a b front rest all h e = appends_kept (append_known a all) (append_known b rest) (append_known-moved a b front rest all h.after e)

-- the front of what is kept, and the rest
pub split_kept : (start count : ℕ) (xs rest : List ℕ) → rest ≡ drop start xs → drop start xs ≡ take count rest ++ drop (start + count) xs
split_kept start count xs rest e = rw e (sym (take-append-drop count (drop start xs))
    ∙ ap (λ (ys : List ℕ). take count (drop start xs) ++ ys) (drop-drop count start xs))

-- a block behind what is kept
pub stored : (start a k count : ℕ) (xs ys : List ℕ) → start ≤ a → a ≤ length xs → count ≤ length ys
    → drop start (take (a + count) (put_mid a k xs ys)) ≡ drop start (take a xs) ++ take count ys
stored start a k count xs ys order h few = ap (drop start) (kept_front a k count xs ys h few)
    ∙ drop-append-le start (take a xs) (take count ys) (omega (arith, order, length-take-le a xs h))

-- a text behind what the target has and what is kept
behind_kept : (a : Option (List ℕ)) (kept text : List ℕ) → Appends (append_known a kept) (append_known a (kept ++ text)) text
behind_kept None kept text = record { after = tt }
behind_kept (Some xs) kept text = record { after = sym (append_assoc xs kept text) }

-- A text is kept behind what was kept.
pub kept_more : {T : Type 0} (written : T → Option (List ℕ)) (old new : BlockWriter T) (text : List ℕ) → kept_of new ≡ kept_of old ++ text
    → target_of new ≡ target_of old → Appends (with_kept written old) (with_kept written new) text
kept_more written old new text kept target = rw (kept, target) (behind_kept (written (target_of old)) (kept_of old) text)

-- All was handed on, the target took a text, and as much is kept as before: nothing.
pub passed_through : {T : Type 0} (written : T → Option (List ℕ)) (old mid : BlockWriter T) (target : T) (text : List ℕ)
    → Appends (with_kept written old) (with_kept written mid) [] → kept_of mid ≡ []
    → Appends (written (target_of mid)) (written target) text → Appends (with_kept written old) (append_known (written target) (kept_of mid)) text
passed_through written old mid target text first none second =
    appends_both (with_kept written old) (with_kept written mid) (append_known (written target) (kept_of mid)) [] text first
    (rw (none, nothing_kept (written (target_of mid)), nothing_kept (written target)) second)
