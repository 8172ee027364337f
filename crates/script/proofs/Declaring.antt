-- The words that stand in a text between places, the event of a word among them, and one word more. Assumes nothing.
use mathlib.Core.Path.{refl, ◌≡◌, sym, ap, ◌∙◌}
use mathlib.Core.Bool.{Bool, true, false, cond, not}
use mathlib.Core.List.{List}
use mathlib.Core.Logic.{⊎_elim}
use Prim.Native.Nat.{ℕ, suc, ◌+◌, ◌≤◌, ◌<◌}
use native.Mathlib.Omega.{arith}
use borrow.Author.Tests.{lt-ltb, le-ltb, lt-leb, le-leb}
use lib.Dec.{eqb, leb, ltb}
use lib.Pointwise.{pointwise}
use lib.ListN.{length, take}
use lib.Seq.{length-take-le}
use Rattle.std.proofs.Common.{map, Option, Some, None}
use Rattle.std.specs.Option.{is_some}
use Rattle.std.specs.List.{position, position_or_len}
use Rattle.std.proofs.lemmas.List.Recursion.{is_position_or_len}
use Rattle.std.proofs.lemmas.List.Sums.{prefix_len-le-length}
use Rattle.std.proofs.lemmas.List.{length-map}
use Rattle.laws.proofs.Order.{lt-or-ge}
use Rattle.laws.proofs.Tests.{never}
use Rattle.meaning.specs.Limits.{most_events}
use Rattle.script.specs.declared.names.Names.{Names}
use Rattle.script.specs.declared.names.Span.{Span}
use Rattle.script.specs.Words.{event_of, is_kept, is_new, most_characters}
use Rattle.script.specs.Notes.{word_at, names_of, Finds}
use Rattle.script.proofs.Wording.{compared}

-- ---- how many names
pub names-count : (text : List ℕ) (names : Names) → names.n ≤ most_events → length names.spans ≡ most_events → length (names_of text names) ≡ names.n
names-count text names few s = length-map (take names.n names.spans) (word_at text) ∙ length-take-le names.n names.spans (omega arith)

-- ---- the event of a word
-- the first of the spans at which the word stands, if there is one, is its event
module _ (text : List ℕ) (w : List ℕ) where
  abbrev stands : Span → Bool
  stands s = pointwise eqb (word_at text s) w

  first-event : (spans : List Span) → event_of (map (word_at text) spans) w ≡ position_or_len stands spans
  unfolding event_of
  first-event spans =
      is_position_or_len (λ (l : List Span). event_of (map (word_at text) l) w) stands refl
      (λ s l.
      let n = event_of (map (word_at text) l) w in
      let more : suc n ≡ 1 + n = omega arith in
      ap (λ (t : Bool). cond t 0 (suc n)) (sym (compared (word_at text s) w)) ∙ ap (λ (k : ℕ). cond (stands s) 0 k) more)
      spans

  pub event-first : (spans : List Span) → Finds (map (word_at text) spans) w (position stands spans)
  event-first spans =
      let many = length-map spans (word_at text) in
      let e = first-event spans in
      ⊎_elim (λ h. rw (lt-ltb (position_or_len stands spans) (length spans) h) (e, omega (arith, many)))
      (λ h. rw (le-ltb (position_or_len stands spans) (length spans) h) (omega (arith, many, e, prefix_len-le-length (λ s. not (stands s)) spans)))
      (lt-or-ge (position_or_len stands spans) (length spans))

-- ---- whether a word is new
not-ltb : (a b : ℕ) → not (ltb a b) ≡ leb b a
not-ltb a b = ⊎_elim (λ h. rw (lt-ltb a b h, lt-leb b a h)) (λ h. rw (le-ltb a b h, le-leb b a h)) (lt-or-ge a b)

module _ (names : List (List ℕ)) (w : List ℕ) where
  pub long-not-new : most_characters < length w → is_new names w ≡ false
  unfolding is_new
  long-not-new h = rw (lt-leb (length w) most_characters h)

  pub kept-not-new : length w ≤ most_characters → is_kept w ≡ true → is_new names w ≡ false
  unfolding is_new
  kept-not-new h k = rw (le-leb (length w) most_characters h, k)

  pub new-by-event : (n r : ℕ) → length w ≤ most_characters → is_kept w ≡ false → length names ≡ n → r ≡ event_of names w → leb n r ≡ is_new names w
  unfolding is_new
  new-by-event n r h k m e = rw (← m, e, le-leb (length w) most_characters h, k) (sym (not-ltb (event_of names w) (length names)))

  -- by whether an event was found
  pub new-unless-found : (o : Option ℕ) (new : Bool) → length w ≤ most_characters → is_kept w ≡ false → Finds names w o → is_some o ≡ not new → new ≡ is_new names w
  unfolding is_new
  new-unless-found None true h k f e = rw (le-leb (length w) most_characters h, k, le-ltb (event_of names w) (length names) (omega arith))
  new-unless-found None false h k f e = absurd (never (cc))
  new-unless-found (Some event) true h k f e = absurd (never (cc))
  new-unless-found (Some event) false h k f e = rw (le-leb (length w) most_characters h, k, lt-ltb (event_of names w) (length names) (omega arith))

pub undone : (b : Bool) {v : Bool} → v ≡ not b → not v ≡ b
undone true e = ap not e
undone false e = ap not e
