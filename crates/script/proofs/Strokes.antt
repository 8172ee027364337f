-- Going along a text that is known: bytes of no effect, and words of one role, each followed by such a byte. Assumes nothing.
-- A text is given by strokes: which bytes a word may begin and go on with, its role, and what is written after it. That the grammar takes the
-- strokes so, whatever the words are, is a test that computes (`goes`); what they then make of what was read is shown over them once (`led-by`).
use mathlib.Core.Path.{◌≡◌, refl, ap, ◌∙◌, subst}
use mathlib.Core.Bool.{Bool, true, false, ◌&&◌, cond}
use mathlib.Core.List.{List, [], ◌∷◌, ◌++◌, append_assoc}
use mathlib.Core.Logic.{by_cases}
use Prim.Native.Nat.{ℕ, zero, suc, ◌+◌, ◌≤◌, ◌<◌}
use native.Mathlib.Decide.{ℕ_discrete}
use native.Mathlib.Omega.{arith}
use mir.Facts.{and_yes, eqb_yes, ltb_yes}
use lib.Dec.{T, ltb, eqb}
use lib.ListN.{length}
use Rattle.laws.proofs.Tests.{is_true}
use Rattle.grammar.specs.Grammar.{Role, other, role_no, Grammar}
use Rattle.grammar.specs.Place.{live, after, role_of, place_from}
use Rattle.grammar.specs.Pieces.{Piece, join_to, pieces}
use Rattle.grammar.proofs.Same.{role-eq, same, is_equal, equal_is}
use Rattle.grammar.proofs.Parts.{join-join, join_apart}
use Rattle.grammar.proofs.Places.{after_all}
use Rattle.script.specs.Reading.{Read, Answer, going, read_piece, read_all, settled}

-- the answer to a text of a grammar, what was read before it being R
unfoldable pub answer_from : ℕ → Grammar → List ℕ → Read → Answer
answer_from i g s R = settled (place_from i g s) (read_all (pieces i g s) R)

-- whatever follows the text w, it leads from the grammar g to h, and from what was read, R, to S
pub record Leads (g : Grammar) (R : Read) (w : List ℕ) (h : Grammar) (S : Read) : Type 0 where
  pub leads : (i : ℕ) (s : List ℕ) → (j : ℕ) × (answer_from i g (w ++ s) R ≡ answer_from j h s S)

pub nowhere-led : (g : Grammar) (R : Read) → Leads g R [] g R
nowhere-led g R = record { leads = λ i s. (i, refl) }

pub led_on : {g h k : Grammar} {R S Q : Read} (v w : List ℕ) → Leads g R v h S → Leads h S w k Q → Leads g R (v ++ w) k Q
led_on {g} {R = R} v w a b =
    record {
      leads = λ i s.
          let one = a.leads i (w ++ s) in
          let two = b.leads one.0 s in
          (two.0, ap (λ (l : List ℕ). answer_from i g l R) (append_assoc v w s) ∙ one.1 ∙ two.1);
    }

-- ---- bytes of no effect
-- a piece that nothing is made of is passed over, also where others are joined to it
passed_over : (i : ℕ) (w : List ℕ) (ps : List Piece) (R : Read) → read_all (join_to i other w ps) R ≡ read_all ps R
unfolding join_to read_all read_piece
passed_over i w [] R = refl
passed_over i w (p ∷ ps) R = go (eqb (role_no other) (role_no p.role)) (λ t. role-eq other p.role (eqb_yes t))
  where
    go : (x : Bool) → (T x → other ≡ p.role) → read_all (cond x (record { role = other; from = i; word = w ++ p.word } ∷ ps) (record { role = other; from = i; word = w } ∷ p ∷ ps)) R ≡ read_all (p ∷ ps) R
    go true f = rw (← (f tt))
    go false f = refl

-- the byte b goes on from g, and has the role r
abbrev Goes : Role → ℕ → Grammar → Type 0
Goes r b g = (live (after b g) ≡ true) × (role_of b g ≡ r)

plain_byte : (i b : ℕ) (g : Grammar) (s : List ℕ) (R : Read) → Goes other b g → answer_from i g (b ∷ s) R ≡ answer_from (suc i) (after b g) s R
unfolding answer_from place_from pieces
plain_byte i b g s R (l, r) = rw (l, r) (ap (settled (place_from (suc i) (after b g) s)) (passed_over i (b ∷ []) (pieces (suc i) (after b g) s) R))

-- all bytes of w go on from g, and none has an effect
unfoldable pub plainly : List ℕ → Grammar → Bool
plainly [] g = true
plainly (b ∷ w) g = live (after b g) && (eqb (role_no (role_of b g)) (role_no other) && plainly w (after b g))

first_plain : (b : ℕ) (w : List ℕ) (g : Grammar) → T (plainly (b ∷ w) g) → Goes other b g × T (plainly w (after b g))
unfolding plainly
first_plain b w g t =
    let one = and_yes (live (after b g)) (eqb (role_no (role_of b g)) (role_no other) && plainly w (after b g)) t in
    let two = and_yes (eqb (role_no (role_of b g)) (role_no other)) (plainly w (after b g)) one.1 in
    ((is_true (live (after b g)) one.0, role-eq (role_of b g) other (eqb_yes two.0)), two.1)

pub plain-led : (w : List ℕ) (g : Grammar) (R : Read) → T (plainly w g) → Leads g R w (after_all w g) R
unfolding after_all
plain-led [] g R t = nowhere-led g R
plain-led (b ∷ w) g R t =
    let f = first_plain b w g t in
    record {
      leads = λ i s.
          let rest = (plain-led w (after b g) R f.1).leads (suc i) s in
          (rest.0, plain_byte i b g (w ++ s) R f.0 ∙ rest.1);
    }

-- ---- words of one role
-- the bytes of w go on from g to h, each of the role r
abbrev Stays : Role → List ℕ → Grammar → Grammar → Type 0
Stays r [] g h = g ≡ h
Stays r (b ∷ w) g h = Goes r b g × Stays r w (after b g) h

-- they are joined in front of the pieces that follow
word-joined : (r : Role) (b : ℕ) (w : List ℕ) (g h : Grammar) (i : ℕ) (s : List ℕ) → Stays r (b ∷ w) g h → (j : ℕ) × ((pieces i g (b ∷ w ++ s) ≡ join_to i r (b ∷ w) (pieces j h s)) × (place_from i g (b ∷ w ++ s) ≡ place_from j h s))
unfolding pieces place_from
word-joined r b [] g h i s ((l, p), e) = (suc i, (rw (l, p, e), rw (l, e)))
word-joined r b (c ∷ w) g h i s ((l, p), more) =
    let rest = word-joined r c w (after b g) h (suc i) s more in
    (rest.0, (rw (l, p, rest.1.0) (join-join i (suc i) r (b ∷ []) (c ∷ w) (pieces rest.0 h s)), rw l rest.1.1))

-- A word before a byte of no effect is a piece by itself, and what is made of it is made before what follows.
module _ (r : Role) (b : ℕ) (w : List ℕ) (h : Grammar) (c : ℕ) (R S : Read) (apart : role_no r ≡ role_no other → ⊥) (next : Goes other c h) (made : (from : ℕ) → read_piece r from (b ∷ w) R ≡ going S) where
  by_itself : (i j : ℕ) (s : List ℕ) → read_all (join_to i r (b ∷ w) (pieces j h (c ∷ s))) R ≡ read_all (pieces j h (c ∷ s)) S
  unfolding pieces read_all
  by_itself i j s = rw (next.0, next.1, join_apart i j r other (b ∷ w) (c ∷ []) (pieces (suc j) (after c h) s) apart, made i)

  word_read : (g : Grammar) → Stays r (b ∷ w) g h → (i : ℕ) (s : List ℕ) → (j : ℕ) × (answer_from i g (b ∷ w ++ (c ∷ s)) R ≡ answer_from j h (c ∷ s) S)
  unfolding answer_from
  word_read g stays i s =
      let f = word-joined r b w g h i (c ∷ s) stays in
      (f.0, rw (f.1.0, f.1.1) (ap (settled (place_from f.0 h (c ∷ s))) (by_itself i f.0 s)))

  -- with the bytes of no effect that stand behind it
  word-led : (g : Grammar) (v : List ℕ) → Stays r (b ∷ w) g h → T (plainly v (after c h)) → Leads g R (b ∷ w ++ (c ∷ v)) (after_all v (after c h)) S
  word-led g v stays plain =
      record {
        leads = λ i s.
            let one = word_read g stays i (v ++ s) in
            let two = (plain-led v (after c h) S plain).leads (suc one.0) s in (
              two.0,
              ap (λ (l : List ℕ). answer_from i g (b ∷ l) R) (append_assoc w (c ∷ v) s) ∙ one.1
                  ∙ (plain_byte one.0 c h (v ++ s) S next ∙ two.1),
            );
      }

-- ---- strokes
-- a word of a role, its first byte one of `firsts` from `first` on, the others among `mores` from `more` on; and the bytes behind it, of no effect
pub record Stroke : Type 0 where
  pub role : Role
  pub first : ℕ
  pub firsts : ℕ
  pub more : ℕ
  pub mores : ℕ
  pub behind : List ℕ

-- each of k bytes from b on goes on from g to h, and has the role r
unfoldable pub marks : Role → Grammar → Grammar → ℕ → ℕ → Bool
marks r g h b zero = true
marks r g h b (suc k) = (live (after b g) && (eqb (role_no (role_of b g)) (role_no r) && is_equal (same (after b g) h))) && marks r g h (suc b) k

marked : (r : Role) (g h : Grammar) (b k : ℕ) → T (marks r g h b k) → (x : ℕ) → b ≤ x → x < b + k → Goes r x g × (after x g ≡ h)
unfolding marks
marked r g h b zero t x low high = absurd (omega arith)
marked r g h b (suc k) t x low high =
    let all = and_yes (live (after b g) && (eqb (role_no (role_of b g)) (role_no r) && is_equal (same (after b g) h))) (marks r g h (suc b) k) t in
    let one = and_yes (live (after b g)) (eqb (role_no (role_of b g)) (role_no r) && is_equal (same (after b g) h)) all.0 in
    let two = and_yes (eqb (role_no (role_of b g)) (role_no r)) (is_equal (same (after b g) h)) one.1 in
    by_cases (ℕ_discrete b x)
    (λ e.
    subst (λ (y : ℕ). Goes r y g × (after y g ≡ h)) e
    ((is_true (live (after b g)) one.0, role-eq (role_of b g) r (eqb_yes two.0)), equal_is (same (after b g) h) two.1))
    (λ n. marked r g h (suc b) k all.1 x (omega arith) (omega arith))

-- the stroke leads from g, its word to d
unfoldable pub takes : Stroke → Grammar → Grammar → Bool
takes k g d = marks k.role g d k.first k.firsts && (marks k.role d d k.more k.mores && (plainly k.behind d && (ltb 0 (length k.behind) && ltb 0 (role_no k.role))))

-- the strokes lead from g to h, whatever their words are
unfoldable pub goes : List Stroke → Grammar → Grammar → Bool
goes [] g h = is_equal (same g h)
goes (k ∷ ks) g h = takes k g (after k.first g) && goes ks (after_all k.behind (after k.first g)) h

-- each byte is one of k from b on
abbrev pub Ranged : ℕ → ℕ → List ℕ → Type 0
Ranged b k [] = Unit {0}
Ranged b k (x ∷ w) = ((b ≤ x) × (x < b + k)) × Ranged b k w

-- w is a word of the stroke
pub record Word (k : Stroke) (w : List ℕ) : Type 0 where
  pub begin : ℕ
  pub rest : List ℕ
  pub is : w ≡ begin ∷ rest
  pub begins : (k.first ≤ begin) × (begin < k.first + k.firsts)
  pub goes_on : Ranged k.more k.mores rest

-- words of the strokes, and what they make of what was read
abbrev pub Turns : List Stroke → List (List ℕ) → Read → Read → Type 0
Turns [] [] R S = R ≡ S
Turns [] (w ∷ ws) R S = ⊥
Turns (k ∷ ks) [] R S = ⊥
Turns (k ∷ ks) (w ∷ ws) R S = (Q : Read) × Word k w × ((from : ℕ) → read_piece k.role from w R ≡ going Q) × Turns ks ws Q S

-- their text, and what follows it
abbrev pub drawn : List Stroke → List (List ℕ) → List ℕ → List ℕ
drawn [] ws end = end
drawn (k ∷ ks) [] end = end
drawn (k ∷ ks) (w ∷ ws) end = w ++ (k.behind ++ drawn ks ws end)

run-stays : (r : Role) (d : Grammar) (b k : ℕ) → T (marks r d d b k) → (w : List ℕ) → Ranged b k w → Stays r w d d
run-stays r d b k t [] m = refl
run-stays r d b k t (x ∷ w) m =
    let f = marked r d d b k t x m.0.0 m.0.1 in
    (f.0, rw f.1 (run-stays r d b k t w m.1))

-- one stroke
stroke-led : (k : Stroke) (g d : Grammar) (w : List ℕ) (R S : Read) → T (takes k g d) → Word k w → ((from : ℕ) → read_piece k.role from w R ≡ going S) → Leads g R (w ++ k.behind) (after_all k.behind d) S
unfolding takes role_no
stroke-led k g d w R S t m made =
    let one = and_yes (marks k.role g d k.first k.firsts) _ t in
    let two = and_yes (marks k.role d d k.more k.mores) _ one.1 in
    let three = and_yes (plainly k.behind d) _ two.1 in
    let four = and_yes (ltb 0 (length k.behind)) (ltb 0 (role_no k.role)) three.1 in
    let f = marked k.role g d k.first k.firsts one.0 m.begin m.begins.0 m.begins.1 in
    let stays : Stays k.role (m.begin ∷ m.rest) g d = (f.0, rw f.1 (run-stays k.role d k.more k.mores two.0 m.rest m.goes_on)) in
    by k.behind three.0 four.0 (ltb_yes four.1) stays
  where
    by : (v : List ℕ) → T (plainly v d) → T (ltb 0 (length v)) → 0 < role_no k.role → Stays k.role (m.begin ∷ m.rest) g d → Leads g R (w ++ v) (after_all v d) S
    by [] p l n stays = absurd l
    by (c ∷ v) p l n stays =
        let f = first_plain c v d p in
        rw m.is (unfold after_all in (word-led k.role m.begin m.rest d c R S (λ e. omega (arith, e)) f.0 (λ from. rw (← m.is) (made from)) g v stays f.1))

-- all of them, and what follows
pub led-by : (ks : List Stroke) (ws : List (List ℕ)) (end : List ℕ) {g d h : Grammar} {R Q S : Read} → T (goes ks g d) → Turns ks ws R Q → Leads d Q end h S → Leads g R (drawn ks ws end) h S
unfolding goes
led-by [] [] end {g} {d} t e more = rw (e, equal_is (same g d) t) more
led-by [] (w ∷ ws) end t e more = absurd e
led-by (k ∷ ks) [] end t e more = absurd e
led-by (k ∷ ks) (w ∷ ws) end {g} {d} {R = R} t (P, m, made, rest) more =
    let b = after k.first g in
    let two = and_yes (takes k g b) (goes ks (after_all k.behind b) d) t in
    rw (← (append_assoc w k.behind (drawn ks ws end)))
    (led_on (w ++ k.behind) (drawn ks ws end) (stroke-led k g b w R P two.0 m made) (led-by ks ws end two.1 rest more))
