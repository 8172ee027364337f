-- A script that is read gives a problem that 01 accepts, with the alternatives and clauses that its asserts say, in their order. Assumes nothing.
use mathlib.Core.Path.{◌≡◌, refl, sym, ap, ap₂, ◌∙◌, subst}
use mathlib.Core.Bool.{Bool, true, false, not, ◌&&◌, cond}
use mathlib.Core.List.{List, [], ◌∷◌, ◌++◌}
use mathlib.Core.Option.{Option, none, some}
use Prim.Native.Nat.{ℕ, zero, suc, ◌+◌, ◌-◌, ◌*◌, ◌/◌, ◌%◌, ◌≤◌, ◌<◌}
use native.Mathlib.Omega.{arith}
use mir.Facts.{and_yes, yes_and, ltb_yes, leb_yes, eqb_yes, eqb_no}
use lib.Dec.{T, leb, ltb, eqb, le→leb, lt→ltb, eqb_refl}
use lib.IntN.{ℤ, pos, negsuc, nat_abs}
use lib.ListN.{length, take, drop, length-append, length-drop}
use lib.Seq.{take_all, take-append-le, drop-drop, drop-append-le}
use Rattle.laws.proofs.Tests.{is_true, never}
use Rattle.std.specs.Prelude.{Option as Spelt, None, Some}
use Rattle.meaning.specs.declared.Refusal.{Refusal}
use Rattle.meaning.specs.declared.Refusal.TheVariants.{Events, Clauses, Triples, Itself, Script}
use Rattle.meaning.specs.Limits.{most_events, most_clauses, most_in_clause, most_alternatives, most_bound}
use Rattle.meaning.specs.Problem.{Alternative, Clause}
use Rattle.meaning.specs.Screen.{Lent, alternatives, parted, clauses_of, stepped, events, bounds, is_event, are_events, are_apart, is_bound, problem_tests, problem_refusal}
use Rattle.meaning.proofs.Refusals.{none-failed}
use Rattle.meaning.proofs.Accepted.{first-pair, differ-apart, first_count, alternatives-count}
use Rattle.dialogue.specs.Words.{unsigned_of}
use Rattle.dialogue.proofs.Spelling.{unsigned-most}
use Rattle.grammar.specs.Grammar.{Role, other, new_name, first_name, second_name, bound_digit, negated_digit, declaration_end, assert_end, check_end, script}
use Rattle.grammar.specs.Place.{place_from}
use Rattle.grammar.specs.Pieces.{Piece, pieces}
use Rattle.grammar.proofs.Atoms.{Taken, Whole, whole}
use Rattle.script.specs.Words.{event_of, is_declared, is_new}
use Rattle.script.specs.Reading.{Read, Answer, going, refused, unless, signed, found, with_new, is_again, with_event, with_bound, with_name, with_clause, with_check, read_piece, and_then, read_all, settled, nothing_read, answer_at}

-- the problem that was read, as 01 has it lent
abbrev pub lent_of : Read → Lent
lent_of R = record { n = length R.names; triples = R.triples; counts = R.counts }

-- ---- one alternative more
module _ (x y c : ℤ) where
  abbrev more : List ℤ
  more = x ∷ y ∷ c ∷ []

  events-more : (f : ℤ → ℤ → Bool) (ts : List ℤ) → length ts % 3 ≡ 0 → T (events f ts) → T (f x y) → T (events f (ts ++ more))
  unfolding events
  events-more f [] m t p = yes_and (f x y) true p tt
  events-more f (a ∷ []) m t p = absurd (omega arith)
  events-more f (a ∷ (b ∷ [])) m t p = absurd (omega arith)
  events-more f (a ∷ (b ∷ (d ∷ ts))) m t p =
      let two = first-pair f a b d ts t in
      yes_and (f a b) (events f (ts ++ more)) two.0 (events-more f ts (omega arith) two.1 p)

  bounds-more : (f : ℤ → Bool) (ts : List ℤ) → length ts % 3 ≡ 0 → T (bounds f ts) → T (f c) → T (bounds f (ts ++ more))
  unfolding bounds
  bounds-more f [] m t p = yes_and (f c) true p tt
  bounds-more f (a ∷ []) m t p = absurd (omega arith)
  bounds-more f (a ∷ (b ∷ [])) m t p = absurd (omega arith)
  bounds-more f (a ∷ (b ∷ (d ∷ ts))) m t p =
      let two = and_yes (f d) (bounds f ts) t in
      yes_and (f d) (bounds f (ts ++ more)) two.0 (bounds-more f ts (omega arith) two.1 p)

  alternatives-more : (j : ℕ) (ts : List ℤ) → length ts % 3 ≡ 0 → alternatives j (ts ++ more) ≡ alternatives j ts ++ (record { no = j + length ts / 3; x = nat_abs x; y = nat_abs y; c = c } ∷ [])
  unfolding alternatives
  alternatives-more j [] m = ap (λ (k : ℕ). record { no = k; x = nat_abs x; y = nat_abs y; c = c } ∷ []) (let q : j ≡ j + 0 / 3 = omega arith in q)
  alternatives-more j (a ∷ []) m = absurd (omega arith)
  alternatives-more j (a ∷ (b ∷ [])) m = absurd (omega arith)
  alternatives-more j (a ∷ (b ∷ (d ∷ ts))) m =
      let q : suc j + length ts / 3 ≡ j + suc (suc (suc (length ts))) / 3 = omega arith in
      ap (λ (l : List Alternative). record { no = j; x = nat_abs a; y = nat_abs b; c = d } ∷ l)
      (alternatives-more (suc j) ts (omega arith) ∙ ap (λ (k : ℕ). alternatives (suc j) ts ++ (record { no = k; x = nat_abs x; y = nat_abs y; c = c } ∷ [])) q)

-- with a bound the alternatives gain the one that it ends, at their end
pub said-atom : (ts : List ℤ) (x y : ℕ) (c : ℤ) → length ts % 3 ≡ 0 → alternatives 0 (ts ++ (pos x ∷ pos y ∷ c ∷ [])) ≡ alternatives 0 ts ++ (record { no = length ts / 3; x = x; y = y; c = c } ∷ [])
said-atom ts x y c m =
    let q : 0 + length ts / 3 ≡ length ts / 3 = omega arith in
    alternatives-more (pos x) (pos y) c 0 ts m ∙ ap (λ (k : ℕ). alternatives 0 ts ++ (record { no = k; x = x; y = y; c = c } ∷ [])) q

-- events below n lie below what is no less
events-below : (n k : ℕ) → n ≤ k → (ts : List ℤ) → T (events (are_events n) ts) → T (events (are_events k) ts)
unfolding events
events-below n k h [] t = tt
events-below n k h (x ∷ []) t = tt
events-below n k h (x ∷ (y ∷ [])) t = tt
events-below n k h (x ∷ (y ∷ (c ∷ ts))) t =
    let two = first-pair (are_events n) x y c ts t in
    let each = and_yes (is_event n x) (is_event n y) two.0 in
    yes_and (are_events k x y) (events (are_events k) ts) (yes_and (is_event k x) (is_event k y) (wider x each.0) (wider y each.1))
    (events-below n k h ts two.1)
  where
    wider : (z : ℤ) → T (is_event n z) → T (is_event k z)
    wider (pos a) s =
        let two = and_yes (leb 0 a) (ltb a n) s in
        let l : a < n = ltb_yes two.1 in
        yes_and (leb 0 a) (ltb a k) two.0 (lt→ltb a k (omega arith))
    wider (negsuc a) s = absurd s

events-known : (n a b : ℕ) → a < n → b < n → T (are_events n (pos a) (pos b))
events-known n a b h k = yes_and (is_event n (pos a)) (is_event n (pos b)) (known a h) (known b k)
  where
    known : (e : ℕ) → e < n → T (is_event n (pos e))
    known e l = yes_and (leb 0 e) (ltb e n) (le→leb 0 e (omega arith)) (lt→ltb e n l)

-- ---- one clause more
stepped-to : (last from : ℕ) (counts : List ℕ) → T (stepped last from counts) → from ≤ last
unfolding stepped
stepped-to last from [] t = let q : from ≡ last = eqb_yes t in omega arith
stepped-to last from (e ∷ counts) t = let f = first_count last from e counts t in omega (arith, f.up, stepped-to last e counts f.rest)

stepped-more : (last k from : ℕ) (counts : List ℕ) → T (stepped last from counts) → last ≤ k → k ≤ last + most_in_clause → T (stepped k from (counts ++ (k ∷ [])))
unfolding stepped
stepped-more last k from [] t h l =
    let q : from ≡ last = eqb_yes t in
    yes_and (leb from k && leb k (from + most_in_clause)) (eqb k k) (yes_and (leb from k) (leb k (from + most_in_clause)) (le→leb from k (omega arith)) (le→leb k (from + most_in_clause) (omega arith))) (eqb_refl k)
stepped-more last k from (e ∷ counts) t h l =
    let two = and_yes (leb from e && leb e (from + most_in_clause)) (stepped last e counts) t in
    yes_and (leb from e && leb e (from + most_in_clause)) (stepped k e (counts ++ (k ∷ []))) two.0 (stepped-more last k e counts two.1 h l)

-- the clauses before it stay, and it holds what they leave
parted-more : (last k from : ℕ) (counts : List ℕ) (fs : List Alternative) → T (stepped last from counts) → length fs ≤ k - from → parted from (counts ++ (k ∷ [])) fs ≡ parted from counts fs ++ (drop (last - from) fs ∷ [])
unfolding parted stepped
parted-more last k from [] fs t h =
    let is : from ≡ last = eqb_yes t in
    let none_left : last - from ≡ 0 = omega arith in
    ap (λ (l : Clause). l ∷ []) (take_all (k - from) fs h ∙ ap (λ (i : ℕ). drop i fs) (sym none_left))
parted-more last k from (e ∷ counts) fs t h =
    let f = first_count last from e counts t in
    let up : from ≤ e = f.up in
    let on : e ≤ last = stepped-to last e counts f.rest in
    let sum : e - from + (last - e) ≡ last - from = omega arith in
    let less : length (drop (e - from) fs) ≤ k - e = simp (length-drop) (omega arith) in
    ap (λ (l : List Clause). take (e - from) fs ∷ l)
    (parted-more last k e counts (drop (e - from) fs) f.rest less
    ∙ ap (λ (l : Clause). parted e counts (drop (e - from) fs) ++ (l ∷ [])) (drop-drop (last - e) (e - from) fs ∙ ap (λ (i : ℕ). drop i fs) sum))

-- alternatives past the last count are in no clause yet
parted-apart : (last from : ℕ) (counts : List ℕ) (fs gs : List Alternative) → T (stepped last from counts) → last - from ≤ length fs → parted from counts (fs ++ gs) ≡ parted from counts fs
unfolding parted
parted-apart last from [] fs gs t h = refl
parted-apart last from (e ∷ counts) fs gs t h =
    let f = first_count last from e counts t in
    let up : from ≤ e = f.up in
    let on : e ≤ last = stepped-to last e counts f.rest in
    let room : e - from ≤ length fs = omega arith in
    let less : last - e ≤ length (drop (e - from) fs) = simp (length-drop) (omega arith) in
    ap₂ (λ (l : Clause) (m : List Clause). l ∷ m) (take-append-le (e - from) fs gs room)
    (ap (parted e counts) (drop-append-le (e - from) fs gs room) ∙ parted-apart last e counts (drop (e - from) fs) gs f.rest less)

-- with an assert's end the clauses gain one at their end: the alternatives since the last count
pub said-clause : (R : Read) (last : ℕ) → T (stepped last 0 R.counts) → clauses_of (record { n = length R.names; triples = R.triples; counts = R.counts ++ (length R.triples / 3 ∷ []) }) ≡ clauses_of (lent_of R) ++ (drop last (alternatives 0 R.triples) ∷ [])
unfolding clauses_of
said-clause R last t =
    let count = alternatives-count 0 R.triples in
    parted-more last (length R.triples / 3) 0 R.counts (alternatives 0 R.triples) t (omega (arith, count))
    ∙ ap (λ (i : ℕ). parted 0 R.counts (alternatives 0 R.triples) ++ (drop i (alternatives 0 R.triples) ∷ [])) (let q : last - 0 ≡ last = omega arith in q)

-- with a bound they stay as they are
pub said-no-clause : (R : Read) (last x y : ℕ) (c : ℤ) → T (stepped last 0 R.counts) → last ≤ length R.triples / 3 → length R.triples % 3 ≡ 0 → clauses_of (record { n = length R.names; triples = R.triples ++ (pos x ∷ pos y ∷ c ∷ []); counts = R.counts }) ≡ clauses_of (lent_of R)
unfolding clauses_of
said-no-clause R last x y c t l m =
    let count = alternatives-count 0 R.triples in
    ap (parted 0 R.counts) (said-atom R.triples x y c m)
    ∙ parted-apart last 0 R.counts (alternatives 0 R.triples) (record { no = length R.triples / 3; x = x; y = y; c = c } ∷ []) t (omega (arith, count))

-- ---- what holds on the way
-- of the names, the events of the open atom and the alternatives; before the first name, event 0 may be named and nothing else; once the second
-- name was read, the open atom has two events
pub record Known (p e : Bool) (n x y : ℕ) (triples : List ℤ) : Type 0 where
  few : n ≤ most_events
  some-name : T e → 1 ≤ n
  x-named : x < suc (n - 1)
  y-named : y < suc (n - 1)
  other-named : T p → x ≡ y → ⊥
  named : T (events (are_events (suc (n - 1))) triples)
  apart : T (events are_apart triples)

-- of the alternatives and clauses, h alternatives standing past the last count
pub record Counted (h : ℕ) (triples : List ℤ) (counts : List ℕ) : Type 0 where
  pub last : ℕ
  pub steps : T (stepped last 0 counts)
  pub since : length triples ≡ (last + h) * 3
  short : h ≤ most_in_clause
  few : last ≤ most_alternatives
  few-clauses : length counts ≤ most_clauses
  bounded : T (bounds is_bound triples)

abbrev pub Good : ℕ → Bool → Bool → Read → Type 0
Good h p e R = Known p e (length R.names) R.x R.y R.triples × Counted h R.triples R.counts

pub threes : {h : ℕ} {triples : List ℤ} {counts : List ℕ} → Counted h triples counts → length triples % 3 ≡ 0
threes r = omega (arith, r.since)

pub begins : Good 0 false false nothing_read
unfolding stepped events bounds
begins = (
  record { few = omega arith; some-name = λ t. absurd t; x-named = omega arith; y-named = omega arith; other-named = λ t. absurd t; named = tt; apart = tt },
  record { last = 0; steps = tt; since = refl; short = omega arith; few = omega arith; few-clauses = omega arith; bounded = tt },
)

-- at the end: the tests of a problem are passed
accepts : (p : Bool) (R : Read) → Good 0 p true R → problem_refusal (lent_of R) ≡ 0
unfolding problem_refusal problem_tests
accepts p R (a, r) =
    let n : ℕ = length R.names in
    let L : ℕ = length R.triples in
    let some-event : 1 ≤ n = a.some-name tt in
    let whole_again : suc (n - 1) ≡ n = omega arith in
    let all : L / 3 ≡ r.last = omega (arith, r.since) in
    let sizes : T (leb 1 n && leb n most_events) = yes_and (leb 1 n) (leb n most_events) (le→leb 1 n some-event) (le→leb n most_events a.few) in
    let few-numbers : T (leb L (3 * most_alternatives)) = le→leb L (3 * most_alternatives) (omega (arith, r.since, r.few)) in
    let numbers : T (eqb (L % 3) 0 && leb L (3 * most_alternatives)) = rw (threes r) few-numbers in
    none-failed _ (sizes, (le→leb (length R.counts) most_clauses r.few-clauses, (numbers, (rw all r.steps, (rw whole_again at a.named, (a.apart, (r.bounded, tt)))))))

-- ---- what a piece gives, if it is taken
pub unless-going : (ok : Bool) (number : Refusal) (place : ℕ) (r Q : Read) → unless ok number place r ≡ going Q → T ok × (r ≡ Q)
unless-going true number place r Q p = (tt, cc)
unless-going false number place r Q p = absurd (never (cc))

-- a name of an atom: it is declared, and as the second it is not the first again
pub event-going : (second : Bool) (from : ℕ) (w : List ℕ) (R Q : Read) → with_event second from w R ≡ going Q → (event_of R.names w < length R.names) × T (not (is_again second R.x (event_of R.names w))) × (found second (event_of R.names w) R ≡ Q)
unfolding with_event
event-going second from w R Q p = go (is_declared R.names w) (λ t. ltb_yes t) p
  where
    event : ℕ
    event = event_of R.names w

    go : (ok : Bool) → (T ok → event < length R.names) → cond ok (unless (not (is_again second R.x event)) Itself 0 (found second event R)) (refused Script from) ≡ going Q → (event < length R.names) × T (not (is_again second R.x event)) × (found second event R ≡ Q)
    go false f q = absurd (never (cc))
    go true f q = let two = unless-going (not (is_again second R.x event)) Itself 0 (found second event R) Q q in (f tt, two.0, two.1)

bound-kept : (negated : Bool) (v : ℕ) → v ≤ most_bound → T (is_bound (signed negated v))
bound-kept false v h = le→leb v most_bound h
bound-kept true zero h = tt
bound-kept true (suc v) h = le→leb (suc v) most_bound h

module _ (h : ℕ) (p e : Bool) (R : Read) (g : Good h p e R) where
  -- what is said of the piece goes on at Q
  abbrev Goes : (ℕ → Bool → Bool → Type 0) → Read → Type 0
  Goes W Q = (k : ℕ) × (o : Bool) × (x : Bool) × W k o x × Good k o x Q

  module _ (W : ℕ → Bool → Bool → Type 0) (Q : Read) where
    new-good : (from : ℕ) (w : List ℕ) → W h p e → with_new from w R ≡ going Q → Goes W Q
    unfolding with_new
    new-good from w t q = subst (Goes W) (unless-going (is_new R.names w) Script from _ Q q).1 (h, p, e, t, g)

    -- the first name of an atom leaves it open which event comes second; the second is another
    event-good : (second : Bool) (from : ℕ) (w : List ℕ) → W h second e → with_event second from w R ≡ going Q → Goes W Q
    event-good second from w t q =
        let three = event-going second from w R Q q in
        subst (Goes W) three.2 (h, second, e, t, good second three.0 three.1)
      where
        event : ℕ
        event = event_of R.names w

        good : (b : Bool) → event < length R.names → T (not (is_again b R.x event)) → Good h b e (found b event R)
        good false l o =
            let a = g.0 in
            (record { few = a.few; some-name = a.some-name; x-named = omega arith; y-named = a.y-named; other-named = λ t. absurd t; named = a.named; apart = a.apart }, g.1)
        good true l o =
            let a = g.0 in
            (record { few = a.few; some-name = a.some-name; x-named = a.x-named; y-named = omega arith; other-named = λ t same. eqb_no o (sym same); named = a.named; apart = a.apart }, g.1)

    bound-good : (negated : Bool) (o : Spelt ℕ) → ((v : ℕ) → o ≡ Some v → v ≤ most_bound) → (h < 4) × T p × W (suc h) p e → with_bound negated o R ≡ going Q → Goes W Q
    unfolding with_bound
    bound-good negated None f t q = absurd (never (cc))
    bound-good negated (Some v) f t q =
        let a = g.0 in
        let r = g.1 in
        let room : ℕ = suc (length R.names - 1) in
        let c : ℤ = signed negated v in
        let less : h < 4 = t.0 in
        let S : Read = record { names = R.names; new = R.new; x = R.x; y = R.y; triples = R.triples ++ (pos R.x ∷ pos R.y ∷ c ∷ []); counts = R.counts } in
        let same : S ≡ Q = cc in
        subst (Goes W) same (
          suc h,
          p,
          e,
          t.2,
          (
            record {
              few = a.few;
              some-name = a.some-name;
              x-named = a.x-named;
              y-named = a.y-named;
              other-named = a.other-named;
              named = events-more (pos R.x) (pos R.y) c (are_events room) R.triples (threes r) a.named (events-known room R.x R.y a.x-named a.y-named);
              apart = events-more (pos R.x) (pos R.y) c are_apart R.triples (threes r) a.apart (differ-apart (pos R.x) (pos R.y) (λ same. a.other-named t.1 (ap nat_abs same)));
            },
            record {
              last = r.last;
              steps = r.steps;
              since = length-append R.triples (pos R.x ∷ pos R.y ∷ c ∷ []) ∙ (let q : length R.triples + 3 ≡ (r.last + suc h) * 3 = omega (arith, r.since) in q);
              short = omega arith;
              few = r.few;
              few-clauses = r.few-clauses;
              bounded = bounds-more (pos R.x) (pos R.y) c is_bound R.triples (threes r) r.bounded (bound-kept negated v (f v refl));
            },
          ),
        )

    name-good : W h p e → with_name R ≡ going Q → Goes W Q
    unfolding with_name
    name-good t q =
        let a = g.0 in
        let n : ℕ = length R.names in
        let names : List (List ℕ) = R.names ++ (R.new ∷ []) in
        let two = unless-going (leb (length names) most_events) Events 0 _ Q q in
        let few-names : length names ≤ most_events = leb_yes two.0 in
        let longer : length names ≡ n + 1 = length-append R.names (R.new ∷ []) in
        subst (Goes W) two.1 (
          h,
          p,
          e,
          t,
          (
            record {
              few = few-names;
              some-name = λ y. omega arith;
              x-named = omega (arith, a.x-named);
              y-named = omega (arith, a.y-named);
              other-named = a.other-named;
              named = events-below (suc (n - 1)) (suc (length names - 1)) (omega arith) R.triples a.named;
              apart = a.apart;
            },
            g.1,
          ),
        )

    clause-good : W 0 p e → with_clause R ≡ going Q → Goes W Q
    unfolding with_clause
    clause-good t q = go (leb (length counts) most_clauses) (λ y. leb_yes y) q
      where
        counts : List ℕ
        counts = R.counts ++ (length R.triples / 3 ∷ [])

        S : Read
        S = record { names = R.names; new = R.new; x = R.x; y = R.y; triples = R.triples; counts = counts }

        go : (x : Bool) → (T x → length counts ≤ most_clauses) → cond x (unless (leb (length R.triples) (3 * most_alternatives)) Triples 0 S) (refused Clauses 0) ≡ going Q → Goes W Q
        go false f q = absurd (never (cc))
        go true f q =
            let r = g.1 in
            let k : ℕ = length R.triples / 3 in
            let two = unless-going (leb (length R.triples) (3 * most_alternatives)) Triples 0 S Q q in
            let most : length R.triples ≤ 3 * most_alternatives = leb_yes two.0 in
            let is : k ≡ r.last + h = omega (arith, r.since) in
            subst (Goes W) two.1 (
              0,
              p,
              e,
              t,
              (
                g.0,
                record {
                  last = k;
                  steps = stepped-more r.last k 0 R.counts r.steps (omega arith) (omega (arith, r.short));
                  since = omega (arith, r.since);
                  short = omega arith;
                  few = omega arith;
                  few-clauses = f tt;
                  bounded = r.bounded;
                },
              ),
            )

    check-good : W h p true → with_check R ≡ going Q → Goes W Q
    unfolding with_check
    check-good t q =
        let a = g.0 in
        let two = unless-going (leb 1 (length R.names)) Events 0 R Q q in
        subst (Goes W) two.1 (
          h,
          p,
          true,
          t,
          (record { few = a.few; some-name = λ y. leb_yes two.0; x-named = a.x-named; y-named = a.y-named; other-named = a.other-named; named = a.named; apart = a.apart }, g.1),
        )

    pub piece-good : (role : Role) (from : ℕ) (w : List ℕ) → Taken role h p e W → read_piece role from w R ≡ going Q → Goes W Q
    unfolding read_piece
    piece-good other from w t q = let same : R ≡ Q = cc in subst (Goes W) same (h, p, e, t, g)
    piece-good new_name from w t q = new-good from w t q
    piece-good first_name from w t q = event-good false from w t q
    piece-good second_name from w t q = event-good true from w t q
    piece-good bound_digit from w t q = bound-good false (unsigned_of most_bound w) (λ v is. unsigned-most most_bound v w is) t q
    piece-good negated_digit from w t q = bound-good true (unsigned_of most_bound w) (λ v is. unsigned-most most_bound v w is) t q
    piece-good declaration_end from w t q = name-good t q
    piece-good assert_end from w t q = clause-good t q
    piece-good check_end from w t q = check-good t q

-- ---- the whole script
-- pieces that are read: the first is taken, and the others are read after it
pub first_read : (p : Piece) (ps : List Piece) (R Q : Read) → read_all (p ∷ ps) R ≡ going Q → (S : Read) × (read_piece p.role p.from p.word R ≡ going S) × (read_all ps S ≡ going Q)
unfolding read_all
first_read p ps R Q q = go (read_piece p.role p.from p.word R) q
  where
    go : (a : Answer) → and_then a (λ r. read_all ps r) ≡ going Q → (S : Read) × (a ≡ going S) × (read_all ps S ≡ going Q)
    go (going S) y = (S, refl, y)
    go (refused number place) y = absurd (never (cc))

-- Piece by piece: what was read before it is good, and so what is read with it; at the end no bound is left over and check-sat was read.
all-good : (ps : List Piece) (h : ℕ) (p e : Bool) (R Q : Read) → Whole h p e ps → Good h p e R → read_all ps R ≡ going Q → (o : Bool) × Good 0 o true Q
unfolding read_all
all-good [] h p e R Q (z, t) g q =
    let same : R ≡ Q = cc in
    let done : e ≡ true = is_true e t in
    (p, subst (Good 0 p true) same (rw (z, done) at g))
all-good (piece ∷ ps) h p e R Q t g q =
    let f = first_read piece ps R Q q in
    let n = piece-good h p e R g (λ k o x. Whole k o x ps) f.0 piece.role piece.from piece.word t f.1 in
    all-good ps n.0 n.1 n.2 f.0 Q n.3 n.4 f.2

-- a script that is read: its pieces make a whole, and they are read
pub read_whole : (text : List ℕ) (at : ℕ) (R : Read) → answer_at text at ≡ going R → Whole 0 false false (pieces at script (drop at text)) × (read_all (pieces at script (drop at text)) nothing_read ≡ going R)
unfolding answer_at settled
read_whole text at R p = go (place_from at script (drop at text)) (λ q. whole (drop at text) at q) (read_all (pieces at script (drop at text)) nothing_read) p
  where
    go : (o : Option ℕ) → (o ≡ none → Whole 0 false false (pieces at script (drop at text))) → (a : Answer) → settled o a ≡ going R → Whole 0 false false (pieces at script (drop at text)) × (a ≡ going R)
    go none f a q = (f refl, q)
    go (some place) f (going S) q = absurd (never (cc))
    go (some place) f (refused number k) q = absurd (never (cc))

read-good : (text : List ℕ) (at : ℕ) (R : Read) → answer_at text at ≡ going R → (o : Bool) × Good 0 o true R
read-good text at R p = let f = read_whole text at R p in all-good (pieces at script (drop at text)) 0 false false nothing_read R f.0 begins f.1

-- "refusals 1 to 6 never follow", nor does 12
pub script-accepted : (text : List ℕ) (at : ℕ) (R : Read) → answer_at text at ≡ going R → problem_refusal (lent_of R) ≡ 0
script-accepted text at R p = let g = read-good text at R p in accepts g.0 R g.1

-- what was read is within 01's sizes
pub record Sized (R : Read) : Type 0 where
  pub threes : length R.triples % 3 ≡ 0
  pub few-numbers : length R.triples ≤ 3 * most_alternatives
  pub few-clauses : length R.counts ≤ most_clauses

pub read-sized : (text : List ℕ) (at : ℕ) (R : Read) → answer_at text at ≡ going R → Sized R
read-sized text at R p =
    let r = (read-good text at R p).1.1 in
    record { threes = threes r; few-numbers = omega (arith, r.since, r.few); few-clauses = r.few-clauses }
