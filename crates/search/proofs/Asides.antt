-- Which facts are kept where a reason is looked for, and what their walks say of rows. Assumes nothing.
use mathlib.Core.Path.{◌≡◌, refl, sym, ap, ◌∙◌, subst}
use mathlib.Core.Bool.{true, false}
use mathlib.Core.Logic.{◌⊎◌, inl, inr, ⊎_elim}
use mathlib.Core.List.{List, [], ◌∷◌, map, Memᴰ}
use Prim.Native.Nat.{ℕ, zero, suc, ◌+◌, ◌-◌, ◌*◌, ◌<◌, ◌≤◌}
use native.Mathlib.Nat.{not-suc-le-zero, le_of_suc-le-suc, suc-mul, add-mul}
use native.Mathlib.Decide.{dec_lt}
use native.Mathlib.Omega.{arith}
use lib.IntN.{ℤ, pos, ◌+ℤ◌}
use lib.ListN.{length, drop, length-drop}
use lib.Seq.{get_or-drop, drop-cons}
use Rattle.std.proofs.lemmas.List.{drop-drop}
use Rattle.laws.proofs.Integers.{up, down, sub-law, add-law, le-to}
use Rattle.meaning.specs.Limits.{row_bytes}
use Rattle.meaning.specs.Problem.{Alternative}
use Rattle.meaning.specs.Decision.{sound}
use Rattle.meaning.specs.Search.{cycle}
use Rattle.meaning.specs.Listing.{row_of}
use Rattle.problem.specs.declared.Problem.{Problem}
use Rattle.problem.specs.Arcs.{Net, bias, head, tail, bound, at, arc, places}
use Rattle.problem.specs.Laid.{arcs}
use Rattle.facts.specs.Tests.{Within, IsFact}
use Rattle.held.specs.declared.Facts.{Facts}
use Rattle.held.specs.Held.{held, facts_in}
use Rattle.distances.specs.Distances.{Walk, stay}
use Rattle.distances.proofs.Walking.{joined, single}
use Rattle.taking.specs.Tables.{IsDay}
use Rattle.taking.specs.Taking.{Aside}
use Rattle.taking.proofs.Adding.{day-sound}
use Rattle.shortest.specs.Paths.{Path, sum}
use Rattle.shortest.specs.Narrowing.{Narrows}
use Rattle.shortest.proofs.Narrowing.{narrow-within, narrow-old, narrow-new, narrow-row}
use Rattle.search.specs.Narrowing.{older, Narrowed}

-- the facts after the newest
pub older-held : (f : Facts) → older f ≡ drop 1 (held f)
older-held f = sym (drop-drop 1 f.at f.buffer)

-- they are those before it was put
pub older-put : (f all : Facts) (j : ℕ) → held all ≡ j ∷ held f → older all ≡ held f
older-put f all j e = older-held all ∙ ap (drop 1) e

-- ---- facts as members of lists
fact-here : (j : ℕ) (L : List ℕ) → IsFact (j ∷ L) j
fact-here j L = record { place = 0; below = omega arith; same = refl }

fact-there : (i j : ℕ) (L : List ℕ) → IsFact L j → IsFact (i ∷ L) j
fact-there i j L f = record { place = suc f.place; below = omega (arith, f.below); same = f.same }

fact-cases : (i j : ℕ) (L : List ℕ) → IsFact (i ∷ L) j → (j ≡ i) ⊎ IsFact L j
fact-cases i j L f = go f.place f.below f.same
  where
    go : (k : ℕ) → k < suc (length L) → at (i ∷ L) k ≡ j → (j ≡ i) ⊎ IsFact L j
    go zero l e = inl (sym e)
    go (suc k) l e = inr (record { place = k; below = le_of_suc-le-suc l; same = e })

fact-member : (g : Net) (L : List ℕ) (j : ℕ) → IsFact L j → Memᴰ (arc g j) (map (arc g) L)
fact-member g L j f = go L f.place f.below f.same
  where
    go : (L : List ℕ) (k : ℕ) → k < length L → at L k ≡ j → Memᴰ (arc g j) (map (arc g) L)
    go [] k l e = absurd (not-suc-le-zero l)
    go (i ∷ L) zero l e = Memᴰ.head (ap (arc g) (sym e))
    go (i ∷ L) (suc k) l e = Memᴰ.tail (go L k (le_of_suc-le-suc l) e)

-- ---- the loop
-- the places of the buffer from i on have been looked at
pub record Looking (w : ℕ) (p : Problem) (f : Facts) (day : List (List ℕ)) (kept : Facts) (i : ℕ) : Type 0 where
  pub after : f.at < i
  pub room : i ≤ kept.at
  pub some : (j : ℕ) → IsFact (held kept) j → IsFact (older f) j
  pub aside : (fs : List Alternative) → IsDay w fs day → (k : ℕ) → i ≤ k → k < places → IsFact (held kept) (at f.buffer k) ⊎ Aside (arcs p) fs (at f.buffer f.at) (at f.buffer k)

module _ (w : ℕ) (p : Problem) (f : Facts) (day : List (List ℕ)) (long : length f.buffer ≡ places) where
  -- a place after the newest is an older fact
  older-at : (k : ℕ) → f.at < k → k < places → IsFact (older f) (at f.buffer k)
  older-at k l m =
      record {
        place = k - (f.at + 1);
        below = omega (arith, length-drop (f.at + 1) f.buffer);
        same = get_or-drop (f.at + 1) f.buffer (k - (f.at + 1)) 0 ∙ ap (at f.buffer) (let e : f.at + 1 + (k - (f.at + 1)) ≡ k = omega arith in e);
      }

  module _ (kept : Facts) (i k : ℕ) (here : k + 1 ≡ i) (after : f.at < k) (below : k < places) (h : Looking w p f day kept i) where
    -- the fact at place k is kept
    pub looking-kept : (more : Facts) → held more ≡ at f.buffer k ∷ held kept → more.at + 1 ≡ kept.at → Looking w p f day more k
    looking-kept more e q =
        record {
          after = after;
          room = omega (arith, h.room);
          some = λ j m. ⊎_elim (λ s. rw s (older-at k after below)) (λ m. h.some j m) (fact-cases (at f.buffer k) j (held kept) (rw e at m));
          aside = λ fs d v a b. rw e (among fs d v a b);
        }
      where
        among : (fs : List Alternative) → IsDay w fs day → (v : ℕ) → k ≤ v → v < places → IsFact (at f.buffer k ∷ held kept) (at f.buffer v) ⊎ Aside (arcs p) fs (at f.buffer f.at) (at f.buffer v)
        among fs d v a b = go (dec_lt k v)
          where
            go : Dec (k < v) → IsFact (at f.buffer k ∷ held kept) (at f.buffer v) ⊎ Aside (arcs p) fs (at f.buffer f.at) (at f.buffer v)
            go (yes l) = ⊎_elim (λ m. inl (fact-there (at f.buffer k) (at f.buffer v) (held kept) m)) (λ m. inr m) (h.aside fs d v (omega arith) b)
            go (no l) = inl (subst (λ (u : ℕ). IsFact (at f.buffer k ∷ held kept) (at f.buffer u)) (let e : k ≡ v = omega arith in e) (fact-here (at f.buffer k) (held kept)))

  -- all have been looked at, and the newest is put before those that are kept
  pub looked : (kept all : Facts) (i : ℕ) → i ≡ f.at + 1 → Looking w p f day kept i → held all ≡ at f.buffer f.at ∷ held kept → Narrowed w p f day all
  looked kept all i e h q =
      record {
        newest = q ∙ ap (λ (L : List ℕ). at f.buffer f.at ∷ L) (sym rest);
        some = λ j m. h.some j (rw rest at m);
        aside = λ fs d j m. rw rest (among fs d j m);
      }
    where
      rest : older all ≡ held kept
      rest = older-put kept all (at f.buffer f.at) q

      among : (fs : List Alternative) → IsDay w fs day → (j : ℕ) → IsFact (older f) j → IsFact (held kept) j ⊎ Aside (arcs p) fs (at f.buffer f.at) j
      among fs d j m =
          let place : at f.buffer (f.at + 1 + m.place) ≡ j = sym (get_or-drop (f.at + 1) f.buffer m.place 0) ∙ m.same in
          subst (λ (x : ℕ). IsFact (held kept) x ⊎ Aside (arcs p) fs (at f.buffer f.at) x) place
          (h.aside fs d (f.at + 1 + m.place) (omega arith) (omega (arith, m.below, length-drop (f.at + 1) f.buffer)))

-- ---- rows are walks
-- a row of facts is a walk of the same sum, less the bias of each of its bounds
path-walk : (g : Net) (R l : List ℕ) (y x : ℕ) → Path g R y l x → (z : ℤ) × Walk (map (arc g) R) y x z × (up z + length l * bias ≡ sum g l + down z)
path-walk g R [] y x e = (pos 0, subst (λ (v : ℕ). Walk (map (arc g) R) y v (pos 0)) e stay, omega arith)
path-walk g R (j ∷ l) y x (f, e, p) =
    let (z, walk, s) = path-walk g R l (head g j) x p in
    let first = subst (λ (v : ℕ). Walk (map (arc g) R) v (head g j) (arc g j).c) e (single (arc g j) (fact-member g R j f)) in
    ((arc g j).c +ℤ z, joined first walk, omega (arith, add-law (arc g j).c z, sub-law (bound g j) bias, suc-mul (length l) bias))

-- so a fact that is aside lies on no closed row below 0 through the newest
pub aside-rows : (g : Net) (R : List ℕ) (a j : ℕ) → Aside g (map (arc g) R) a j → (l m : List ℕ) → Path g R (head g a) l (tail g j) → Path g R (head g j) m (tail g a) → (length l + length m + 2) * bias ≤ bound g a + sum g l + bound g j + sum g m
aside-rows g R a j h l m there back =
    let (s, walk, e) = path-walk g R l (head g a) (tail g j) there in
    let (r, way, q) = path-walk g R m (head g j) (tail g a) back in
    let k = le-to (pos 0) (s +ℤ (arc g j).c +ℤ (r +ℤ (arc g a).c)) (h.each s r walk way) in
    omega (arith, k, e, q, add-law s (arc g j).c, add-law r (arc g a).c, add-law (s +ℤ (arc g j).c) (r +ℤ (arc g a).c), sub-law (bound g j) bias, sub-law (bound g a) bias, add-mul (length l + length m) 2 bias, add-mul (length l) (length m) bias)

-- ---- the reason is the same
-- the facts that are kept leave out none that may lie on a closed row below 0 with the newest
pub narrowed-narrows : (w : ℕ) (p : Problem) (f : Facts) (day : List (List ℕ)) (kept : Facts) → IsDay w (map (arc (arcs p)) (older f)) day → Narrowed w p f day kept → Narrows (arcs p) (at f.buffer f.at) (older f) (older kept)
narrowed-narrows w p f day kept d h =
    record {
      known = h.some;
      kept = λ j m. ⊎_elim (λ k. inl k) (λ q. inr (record { none = aside-rows (arcs p) (older f) (at f.buffer f.at) j q })) (h.aside (map (arc (arcs p)) (older f)) d j m);
    }

-- the facts are the newest and the older ones
pub newest-older : (f : Facts) → length f.buffer ≡ places → f.at < places → held f ≡ at f.buffer f.at ∷ older f
newest-older f long l = drop-cons f.buffer f.at 0 (omega arith) ∙ ap (λ (i : ℕ). at f.buffer f.at ∷ drop i f.buffer) (let e : suc f.at ≡ f.at + 1 = omega arith in e)

-- what `held::Facts::reason` asks of the facts that are kept, and that their row is that of all
pub record Serves (p : Problem) (f kept : Facts) : Type 0 where
  pub within : Within (arcs p) (held kept) p.n
  pub unsound : sound (facts_in p kept) ≡ false
  pub some : 1 ≤ length (held kept)
  pub old : sound (map (arc (arcs p)) (drop 1 (held kept))) ≡ true
  pub row : row_of row_bytes (cycle (facts_in p kept)) ≡ row_of row_bytes (cycle (facts_in p f))

pub serves : (w : ℕ) (p : Problem) (f : Facts) (day : List (List ℕ)) (kept : Facts) → length f.buffer ≡ places → f.at < places → Within (arcs p) (held f) p.n → sound (facts_in p f) ≡ false → IsDay w (map (arc (arcs p)) (older f)) day → Narrowed w p f day kept → Serves p f kept
serves w p f day kept long l within e d h =
    let g = arcs p in
    let a = at f.buffer f.at in
    let all = newest-older f long l in
    let k = narrowed-narrows w p f day kept d h in
    let old = day-sound w (map (arc g) (older f)) day d in
    let inside : Within g (a ∷ older f) p.n = rw all at within in
    let new : sound (map (arc g) (a ∷ older f)) ≡ false = rw all at e in
    record {
      within = rw h.newest (narrow-within g a (older f) (older kept) k p.n inside);
      unsound = rw h.newest (narrow-new g a (older f) (older kept) k old new);
      some = rw h.newest (omega arith);
      old = rw h.newest (narrow-old g a (older f) (older kept) k old p.n inside);
      row = rw (h.newest, all) (narrow-row g a (older f) (older kept) k old new);
    }
