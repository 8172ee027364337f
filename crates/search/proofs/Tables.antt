-- The tables of a place, as the search goes down, sideways and back. Assumes nothing.
use mathlib.Core.Path.{◌≡◌, refl, sym, ap, ◌∙◌, subst}
use mathlib.Core.Bool.{Bool, true, false, true≢false}
use mathlib.Core.Logic.{by_cases}
use mathlib.Core.Option.{Option, some, none}
use mathlib.Core.List.{List, [], ◌∷◌}
use Prim.Native.Nat.{ℕ, zero, suc, ◌+◌, ◌-◌, ◌<◌, ◌≤◌}
use native.Mathlib.Nat.{not-suc-le-zero, le_of_suc-le-suc}
use native.Mathlib.Decide.{ℕ_discrete}
use native.Mathlib.Omega.{arith}
use lib.Dec.{ltb}
use lib.ListN.{length, get_or, take, set, length-take}
use Rattle.std.proofs.lemmas.List.{get_or_read_under}
use lib.Seq.{take-set-le}
use Rattle.laws.proofs.Tests.{never}
use Rattle.meaning.specs.Limits.{opposite_from}
use Rattle.meaning.specs.Problem.{Alternative, Clause}
use Rattle.meaning.specs.Decision.{sound, sound_by, settled}
use Rattle.meaning.specs.Search.{facts, sideways, next}
use Rattle.problem.specs.declared.Problem.{Problem}
use Rattle.problem.specs.Arcs.{Net, at, Arc}
use Rattle.problem.specs.Laid.{arcs, clauses_in}
use Rattle.problem.proofs.Laying.{position-below}
use Rattle.taking.specs.Tables.{IsDay, Held, table_at, Beside}
use Rattle.taking.specs.Taking.{passed, taken, Arcs, Adds}
use Rattle.taking.proofs.Taking.{still-tall}
use Rattle.taking.proofs.Adding.{day-sound}
use Rattle.search.specs.Standing.{Inside}
use Rattle.search.specs.Depths.{facts_at, Roomy, Depths, Enters}
use Rattle.search.proofs.Deeper.{facts-deeper}

-- ---- the next standing begins as the one that is closed
sideways-before : (b : Bool) (i : ℕ) (o : Option (List ℕ)) (q r : List ℕ) → sideways b i o ≡ some r → ((u : List ℕ) → o ≡ some u → (d : ℕ) → d < length u → take d u ≡ take d q) → (d : ℕ) → d < length r → take d r ≡ take d (i ∷ q)
unfolding sideways
sideways-before b i (some u) q r e h zero l = refl
sideways-before b i (some u) q r e h (suc d) l =
    let is : i ∷ u ≡ r = cc in
    sym (ap (take (suc d)) is) ∙ ap (λ (v : List ℕ). i ∷ v) (h u refl d (le_of_suc-le-suc (subst (λ (v : List ℕ). suc d < length v) (sym is) l)))
sideways-before true i none q r e h zero l = refl
sideways-before true i none q r e h (suc d) l =
    let is : suc i ∷ [] ≡ r = cc in
    absurd (not-suc-le-zero (le_of_suc-le-suc (subst (λ (v : List ℕ). suc d < length v) (sym is) l)))
sideways-before false i none q r e h d l = absurd (never (cc))

next-before : (cs : List Clause) (q r : List ℕ) → next cs q ≡ some r → (d : ℕ) → d < length r → take d r ≡ take d q
unfolding next
next-before [] q r e d l = absurd (never (cc))
next-before (c ∷ cs) [] r e d l = absurd (never (cc))
next-before (c ∷ cs) (i ∷ q) r e d l = sideways-before (ltb (suc i) (length c)) i (next cs q) q r e (λ u f. next-before cs q u f) d l

sideways-short : (b : Bool) (i : ℕ) (o : Option (List ℕ)) (q r : List ℕ) → sideways b i o ≡ some r → ((u : List ℕ) → o ≡ some u → length u ≤ length q) → length r ≤ suc (length q)
unfolding sideways
sideways-short b i (some u) q r e h = let is : i ∷ u ≡ r = cc in subst (λ (v : List ℕ). length v ≤ suc (length q)) is (let l = h u refl in omega arith)
sideways-short true i none q r e h = let is : suc i ∷ [] ≡ r = cc in subst (λ (v : List ℕ). length v ≤ suc (length q)) is (omega arith)
sideways-short false i none q r e h = absurd (never (cc))

next-short : (cs : List Clause) (q r : List ℕ) → next cs q ≡ some r → length r ≤ length q
unfolding next
next-short [] q r e = absurd (never (cc))
next-short (c ∷ cs) [] r e = absurd (never (cc))
next-short (c ∷ cs) (i ∷ q) r e = sideways-short (ltb (suc i) (length c)) i (next cs q) q r e (λ u f. next-short cs q u f)

-- ---- the same tables for picks that begin alike
depths-alike : (w : ℕ) (p : Problem) (picks others : List ℕ) (k d : ℕ) (days : List (List (List ℕ))) → d ≤ k → ((i : ℕ) → i < d → take i others ≡ take i picks) → Depths w p picks k days → Depths w p others d days
depths-alike w p picks others k d days l same h =
    record {
      roomy = h.roomy;
      each = λ i b. subst (λ (q : List ℕ). IsDay w (facts (clauses_in p) q []) (table_at days i)) (sym (same i b)) (h.each i (omega arith));
    }

-- without the last table
pub depths-less : (w : ℕ) (p : Problem) (picks : List ℕ) (k : ℕ) (days : List (List (List ℕ))) → Depths w p picks (k + 1) days → Depths w p picks k days
depths-less w p picks k days h = depths-alike w p picks picks (k + 1) k days (omega arith) (λ i l. refl) h

-- sideways or back
pub depths-next : (w : ℕ) (p : Problem) (picks others : List ℕ) (k d : ℕ) (days : List (List (List ℕ))) → length picks ≡ 32 → length others ≡ 32 → k ≤ 32 → d ≤ 32 → next (clauses_in p) (take k picks) ≡ some (take d others) → Depths w p picks k days → Depths w p others d days
depths-next w p picks others k d days long wide few less e h =
    depths-alike w p picks others k d days short (λ i l. sym (taken-twice others d i l) ∙ next-before (clauses_in p) (take k picks) (take d others) e i (omega (arith, length-take d others)) ∙ taken-twice picks k i (omega (arith, short))) h
  where
    short : d ≤ k
    short = omega (arith, next-short (clauses_in p) (take k picks) (take d others) e, length-take d others, length-take k picks)

    taken-twice : (q : List ℕ) (d i : ℕ) → i < d → take i (take d q) ≡ take i q
    taken-twice q zero i l = absurd (not-suc-le-zero l)
    taken-twice q (suc d) zero l = refl
    taken-twice [] (suc d) (suc i) l = refl
    taken-twice (x ∷ q) (suc d) (suc i) l = ap (λ (r : List ℕ). x ∷ r) (taken-twice q d i (le_of_suc-le-suc l))

-- down to position 0 of the next clause
pub depths-down : (w : ℕ) (p : Problem) (picks : List ℕ) (k v : ℕ) (days : List (List (List ℕ))) → Depths w p picks (k + 1) days → Depths w p (set picks k v) (k + 1) days
depths-down w p picks k v days h = depths-alike w p picks (set picks k v) (k + 1) (k + 1) days (omega arith) (λ i l. take-set-le i picks k v (omega arith)) h

-- ---- the table at depth k is written
still-roomy : (w : ℕ) (p : Problem) (r s : List (List (List ℕ))) (k : ℕ) → Beside r s k → Roomy w p r → Roomy w p s
still-roomy w p r s k b h = record { wide = h.wide; few = h.few; room = omega (arith, h.room, b.long); tall = still-tall w r s k b h.tall }

pub depths-beside : (w : ℕ) (p : Problem) (picks : List ℕ) (k : ℕ) (r s : List (List (List ℕ))) → Beside r s k → Depths w p picks k r → Depths w p picks k s
depths-beside w p picks k r s b h =
    record {
      roomy = still-roomy w p r s k b h.roomy;
      each = λ i l. subst (IsDay w (facts_at p picks i)) (sym (b.rest i (λ e. absurd (omega arith)))) (h.each i l);
    }

depths-more : (w : ℕ) (p : Problem) (picks : List ℕ) (k : ℕ) (s : List (List (List ℕ))) → Depths w p picks k s → IsDay w (facts_at p picks k) (table_at s k) → Depths w p picks (k + 1) s
depths-more w p picks k s h top =
    record {
      roomy = h.roomy;
      each = λ i l. by_cases (ℕ_discrete i k) (λ q. rw q top) (λ q. h.each i (omega arith));
    }

-- the facts of no clause
facts-none : (p : Problem) (picks : List ℕ) → facts_at p picks 0 ≡ []
facts-none p picks = go (clauses_in p)
  where
    go : (cs : List Clause) → facts cs (take 0 picks) [] ≡ []
    go [] = refl
    go (c ∷ cs) = refl

sound-none : (p : Problem) (picks : List ℕ) → sound (facts_at p picks 0) ≡ true
sound-none p picks = ap sound (facts-none p picks) ∙ unfold sound sound_by settled in refl

-- the facts of a table have a timetable
pub depths-sound : (w : ℕ) (p : Problem) (picks : List ℕ) (k : ℕ) (days : List (List (List ℕ))) → Depths w p picks k days → (i : ℕ) → i < k → sound (facts_at p picks i) ≡ true
depths-sound w p picks k days h i l = day-sound w (facts_at p picks i) (table_at days i) (h.each i l)

-- so an unsound standing is not the first
pub unsound-deep : (p : Problem) (picks : List ℕ) (k : ℕ) → sound (facts_at p picks k) ≡ false → 0 < k
unsound-deep p picks zero e = absurd (true≢false (sym (sound-none p picks) ∙ e))
unsound-deep p picks (suc k) e = omega arith

pub enters-first : (w : ℕ) (p : Problem) (picks : List ℕ) (k : ℕ) (r s : List (List (List ℕ))) → k ≡ 0 → Depths w p picks k r → Beside r s 0 → IsDay w [] (table_at s 0) → Enters w p picks k r s true
enters-first w p picks k r s e h b day = rw e (go (rw e at h))
  where
    go : Depths w p picks 0 r → Enters w p picks 0 r s true
    go h =
        let under = depths-beside w p picks 0 r s b h in
        record {
          decides = sym (sound-none p picks);
          stays = under;
          day = λ t. depths-more w p picks 0 s under (subst (λ (fs : List Alternative). IsDay w fs (table_at s 0)) (sym (facts-none p picks)) day);
        }

-- the position of the standing's last clause was taken on the table above
pub enters-deeper : (w : ℕ) (p : Problem) (picks : List ℕ) (c : ℕ) (r s : List (List (List ℕ))) (ok : Bool) → length picks ≡ 32 → Inside p picks (c + 1) → Depths w p picks (c + 1) r → Adds w r s c (c + 1) (taken (arcs p) (at p.starts c) (at p.starts c + at picks c)) ok → Enters w p picks (c + 1) r s ok
enters-deeper w p picks c r s ok long inside above adds =
    record {
      decides = adds.decides (facts_at p picks c) (above.each c (omega arith)) ∙ ap sound deeper;
      stays = stays;
      day = λ t. depths-more w p picks (c + 1) s stays (subst (λ (fs : List Alternative). IsDay w fs (table_at s (c + 1))) deeper (adds.day t (facts_at p picks c) (above.each c (omega arith))));
    }
  where
    deeper : taken (arcs p) (at p.starts c) (at p.starts c + at picks c) (facts_at p picks c) ≡ facts_at p picks (c + 1)
    deeper = facts-deeper p picks c long (omega (arith, inside.few)) (inside.each c (omega arith))

    stays : Depths w p picks (c + 1) s
    stays = depths-beside w p picks (c + 1) r s adds.beside above

-- the same by the depth itself, and by the numbers that were read
pub enters-last : (w : ℕ) (p : Problem) (picks : List ℕ) (k first last : ℕ) (r s : List (List (List ℕ))) (ok : Bool) → length picks ≡ 32 → (k ≡ 0 → ⊥) → Inside p picks k → first ≡ at p.starts (k - 1) → last ≡ first + at picks (k - 1) → Depths w p picks k r → Adds w r s (k - 1) k (taken (arcs p) first last) ok → Enters w p picks k r s ok
enters-last w p picks k first last r s ok long deep inside f l above adds =
    let whole : k ≡ k - 1 + 1 = omega arith in
    subst (λ (i : ℕ). Enters w p picks i r s ok) (sym whole)
    (enters-deeper w p picks (k - 1) r s ok long (subst (Inside p picks) whole inside) (subst (λ (i : ℕ). Depths w p picks i r) whole above)
    (subst (λ (i : ℕ). Adds w r s (k - 1) i (taken (arcs p) (at p.starts (k - 1)) (at p.starts (k - 1) + at picks (k - 1))) ok) whole
    (subst (λ (i : ℕ). Adds w r s (k - 1) k (taken (arcs p) i (i + at picks (k - 1))) ok) f
    (subst (λ (i : ℕ). Adds w r s (k - 1) k (taken (arcs p) first i) ok) l adds))))

-- some facts are those of each table
pub depths-held : (w : ℕ) (p : Problem) (picks : List ℕ) (k : ℕ) (days : List (List (List ℕ))) → Depths w p picks k days → (i : ℕ) → i < k → Held w (table_at days i)
depths-held w p picks k days h i l = record { fs = facts_at p picks i; holds = h.each i l }

-- ---- a problem's arcs lie within a wider table
pub arc-wide : (g : Net) (n w j : ℕ) → n ≤ w → Arc g n j → Arc g w j
arc-wide g n w j l a =
    record { in-xs = a.in-xs; in_ys = a.in_ys; in-bs = a.in-bs; in_head = omega (arith, a.in_head); in_tail = omega (arith, a.in_tail); small = a.small }

pub arcs-wide : (p : Problem) (w last : ℕ) → p.n ≤ w → last < at p.starts p.m → Arcs (arcs p) w last
arcs-wide p w last l below =
    record {
      few = omega (arith, p.laid.last);
      own = λ j h. arc-wide (arcs p) p.n w j l (p.laid.alternative j (omega arith));
      turned = λ j h. arc-wide (arcs p) p.n w (opposite_from + j) l (p.laid.turned j (omega arith));
      opposites = λ j h. p.laid.opposites j (omega arith);
    }

-- as far as the standing's last position
pub arcs-taken : (p : Problem) (picks : List ℕ) (k w last : ℕ) → 0 < k → Inside p picks k → p.n ≤ w → last ≡ at p.starts (k - 1) + at picks (k - 1) → Arcs (arcs p) w last
arcs-taken p picks k w last deep inside wide e =
    arcs-wide p w last wide (omega (arith, position-below p (k - 1) (omega (arith, inside.few)) (at picks (k - 1)) (inside.each (k - 1) (omega arith)), e))

-- the table at depth k, read from the list
pub read-day : (w : ℕ) (p : Problem) (picks : List ℕ) (k : ℕ) (days : List (List (List ℕ))) (t : List (List ℕ)) → t ≡ get_or days k t → Inside p picks k → Depths w p picks (k + 1) days → IsDay w (facts_at p picks k) t
read-day w p picks k days t e inside h =
    subst (IsDay w (facts_at p picks k)) (sym (get_or_read_under days k (length days) t [] e (omega (arith, h.roomy.room, inside.few)) refl)) (h.each k (omega arith))

-- a table with the opposites of the standing's last position, which were added to the one above it
pub passed-day : (w : ℕ) (p : Problem) (picks : List ℕ) (k first last : ℕ) (days : List (List (List ℕ))) (t : List (List ℕ)) → 0 < k → first ≡ at p.starts (k - 1) → last ≡ first + at picks (k - 1) → Depths w p picks k days → ((fs : List Alternative) → IsDay w fs (table_at days (k - 1)) → IsDay w (passed (arcs p) first (last - first) fs) t) → IsDay w (passed (arcs p) (at p.starts (k - 1)) (at picks (k - 1)) (facts_at p picks (k - 1))) t
passed-day w p picks k first last days t deep f l h added =
    subst (λ (i : ℕ). IsDay w (passed (arcs p) i (at picks (k - 1)) (facts_at p picks (k - 1))) t) f
    (subst (λ (i : ℕ). IsDay w (passed (arcs p) first i (facts_at p picks (k - 1))) t) (let n : last - first ≡ at picks (k - 1) = omega arith in n)
    (added (facts_at p picks (k - 1)) (h.each (k - 1) (omega arith))))
