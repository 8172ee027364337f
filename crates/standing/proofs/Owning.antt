-- "A table that passes has its own entries as its facts": it is the day of them; and every day in range passes. Assumes nothing.
-- An entry is a walk of one fact; along a walk over entries, no detour being shorter, the distance so far is at most the sum so far.
use mathlib.Core.Path.{◌≡◌, refl, sym, subst}
use mathlib.Core.Logic.{◌⊎◌, ⊎_elim, by_cases}
use mathlib.Core.List.Memᴰ
use mathlib.Core.List.{List, Memᴰ}
use Prim.Native.Nat.{ℕ, zero, suc, ◌<◌, ◌≤◌}
use native.Mathlib.Nat.{suc-ne-zero}
use native.Mathlib.Omega.{arith}
use native.Mathlib.Decide.{dec_lt}
use lib.Dec.{T, eqb→eq}
use lib.IntN.{ℤ, pos, negsuc, ◌+ℤ◌}
use lib.Signed.{≤ℤ_refl}
use Rattle.meaning.specs.Limits.{most_events}
use Rattle.meaning.specs.Problem.{Alternative}
use Rattle.distances.specs.Distances.{Walk, stay, onward, Distance, none, far, AtMost, most, Table, DayOf}
use Rattle.distances.specs.Adding.{no_longer, and_then}
use Rattle.standing.specs.Entries.{entry, facts_at, row_facts, rows_facts, own_facts}
use Rattle.standing.specs.Standing.{in_range, is_zero, is_none}
use Rattle.laws.proofs.Integers.{add-law, le-to, le_of}
use Rattle.distances.proofs.Distances.{at-most-more, at-most-far, far-at-most}
use Rattle.distances.proofs.Walking.{single, zero-itself, no-detour}
use Rattle.standing.proofs.Passing.{Passes}

-- ---- what the entries are
entry_in : (u v : ℕ) (z : ℤ) (e : Distance) → e ≡ far z → Memᴰ (entry u v z) (facts_at u v e)
unfolding facts_at
entry_in u v z e h = rw h (Memᴰ.head refl)

row_in : (d : Table) (u v k : ℕ) (z : ℤ) → v < k → d u v ≡ far z → Memᴰ (entry u v z) (row_facts d u k)
unfolding row_facts
row_in d u v zero z l e = absurd (omega arith)
row_in d u v (suc k) z l e =
    by_cases (dec_lt v k) (λ m. Memᴰ.append_right (facts_at u k (d u k)) (row_in d u v k z m e))
    (λ m. let q : v ≡ k = omega arith in Memᴰ.append_left (row_facts d u k) (subst (λ (w : ℕ). Memᴰ (entry u v z) (facts_at u w (d u w))) q (entry_in u v z (d u v) e)))

rows-in : (d : Table) (n u v k : ℕ) (z : ℤ) → u < k → v < n → d u v ≡ far z → Memᴰ (entry u v z) (rows_facts d n k)
unfolding rows_facts
rows-in d n u v zero z l m e = absurd (omega arith)
rows-in d n u v (suc k) z l m e =
    by_cases (dec_lt u k) (λ j. Memᴰ.append_right (row_facts d k n) (rows-in d n u v k z j m e))
    (λ j. let q : u ≡ k = omega arith in Memᴰ.append_left (rows_facts d n k) (subst (λ (w : ℕ). Memᴰ (entry u v z) (row_facts d w n)) q (row_in d u v n z m e)))

-- an entry of the table, between events below w and n
record Of (d : Table) (w n : ℕ) (b : Alternative) : Type 0 where
  from : b.y < w
  to : b.x < n
  is : d b.y b.x ≡ far b.c

in_entry : (d : Table) (u v : ℕ) (e : Distance) (b : Alternative) → d u v ≡ e → Memᴰ b (facts_at u v e) → Of d (suc u) (suc v) b
unfolding facts_at
in_entry d u v none b h m = absurd (Memᴰ.not-nil m)
in_entry d u v (far z) b h m =
    subst (Of d (suc u) (suc v)) (sym (Memᴰ.eq_of_singleton m)) (record { from = omega arith; to = omega arith; is = h })

in_row : (d : Table) (u k : ℕ) (b : Alternative) → Memᴰ b (row_facts d u k) → Of d (suc u) k b
unfolding row_facts
in_row d u zero b m = absurd (Memᴰ.not-nil m)
in_row d u (suc k) b m =
    ⊎_elim (λ h. in_entry d u k (d u k) b refl h)
    (λ h. let o = in_row d u k b h in record { from = o.from; to = omega (arith, o.to); is = o.is })
    (Memᴰ.append_cases (facts_at u k (d u k)) m)

in_rows : (d : Table) (n k : ℕ) (b : Alternative) → Memᴰ b (rows_facts d n k) → Of d k n b
unfolding rows_facts
in_rows d n zero b m = absurd (Memᴰ.not-nil m)
in_rows d n (suc k) b m =
    ⊎_elim (λ h. in_row d k n b h)
    (λ h. let o = in_rows d n k b h in record { from = omega (arith, o.from); to = o.to; is = o.is })
    (Memᴰ.append_cases (row_facts d k n) m)

-- ---- a table that passes is the day of its own entries
zero-far : (d : Distance) → T (is_zero d) → d ≡ far (pos 0)
unfolding is_zero
zero-far none h = absurd h
zero-far (far (pos zero)) h = refl
zero-far (far (pos (suc k))) h = absurd (suc-ne-zero k (eqb→eq (suc k) 0 h))
zero-far (far (negsuc k)) h = absurd (suc-ne-zero k (eqb→eq (suc k) 0 h))

far-zero : {d : Distance} → d ≡ far (pos 0) → T (is_zero d)
unfolding is_zero
far-zero e = rw e tt

kept-at-most : (d : Distance) (p q : ℤ) → T (no_longer d (and_then (far p) (far q))) → AtMost d (p +ℤ q)
unfolding no_longer and_then
kept-at-most none p q h = absurd h
kept-at-most (far z) p q h = most (record { le = h })

at-most-kept : (d e f : Distance) → ((p q : ℤ) → e ≡ far p → f ≡ far q → AtMost d (p +ℤ q)) → T (no_longer d (and_then e f))
unfolding no_longer and_then
at-most-kept d none f h = tt
at-most-kept d (far p) none h = tt
at-most-kept d (far p) (far q) h = go d (h p q refl refl)
  where
    go : (d : Distance) → AtMost d (p +ℤ q) → T (no_longer d (far (p +ℤ q)))
    go none x'' = elim x'' [ ]
    go (far z) (most k) = k.le

pub own-facts : (n : ℕ) (d : Table) → Passes n d → DayOf n (own_facts n d) d
own-facts n d p =
    record {
      within = λ a m. let o = in_rows d n n a m in (o.to, o.from);
      each = λ u v l m. record { walked = λ z e. single (entry u v z) (rows-in d n u v n z l m e); least = λ s w. least l w };
    }
  where
    detour : (u w v : ℕ) → u < n → w < n → v < n → {x y : ℤ} → d u w ≡ far x → d w v ≡ far y → AtMost (d u v) (x +ℤ y)
    detour u w v l m k {x} {y} e f = kept-at-most (d u v) x y (rw (e, f) at (p.detour u w v l m k))

    least : {u v : ℕ} {s : ℤ} → u < n → Walk (own_facts n d) u v s → AtMost (d u v) s
    least {u} l stay = far-at-most (zero-far (d u u) (p.own u l)) (≤ℤ_refl (pos 0))
    least {u} l (onward {s = s} b w m) =
        let o = in_rows d n n b m in
        let (z, e, k) = at-most-far (least l w) in
        at-most-more (detour u b.y b.x l o.from o.to e o.is)
        (le_of (z +ℤ b.c) (s +ℤ b.c) (omega (arith, le-to z s k, add-law z b.c, add-law s b.c)))

-- ---- every day in range passes
pub day-passes : (n : ℕ) (fs : List Alternative) (d : Table) → DayOf n fs d → ((u v : ℕ) → u < n → v < n → T (in_range (d u v))) → ((u v : ℕ) → u < most_events → v < most_events → (n ≤ u) ⊎ (n ≤ v) → T (is_none (d u v))) → Passes n d
day-passes n fs d day ranged past =
    record {
      ranged = ranged;
      own = λ u l. far-zero (zero-itself n fs d day u l);
      detour = λ u w v l m k. at-most-kept (d u v) (d u w) (d w v) (no-detour n fs d day u w v l m k);
      past = past;
    }
