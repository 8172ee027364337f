-- Grammars compared by a test that computes and hands over the proof. Assumes nothing.
use mathlib.Core.Path.{◌≡◌, refl, sym, ap, ap₂, ◌∙◌}
use mathlib.Core.Bool.{Bool, true, false}
use mathlib.Core.Option.{Option, none as differ, some as equal}
use Prim.Native.Nat.{ℕ, zero, suc, ◌≤◌, ◌<◌}
use native.Mathlib.Omega.{arith}
use lib.Dec.{T, eqb, eqb→eq}
use Rattle.grammar.specs.declared.role.Role.{Role as Coded}
use Rattle.grammar.specs.declared.role.Role.TheVariants.{Other, NewName, FirstName, SecondName, BoundDigit, NegatedDigit, DeclarationEnd, AssertEnd, CheckEnd}
use Rattle.grammar.specs.Roles.{meant}
use Rattle.grammar.specs.Grammar.{role_no, Role, other, new_name, first_name, second_name, bound_digit, negated_digit, declaration_end, assert_end, check_end, Kind, exactly, space, line_end, in_comment, symbol_first, symbol_byte, digit, leading_digit, Grammar, none, empty, one, ◌then◌, ◌either◌, many}

-- ---- roles by numbers
pub role_at : ℕ → Role
role_at zero = other
role_at (suc zero) = new_name
role_at (suc (suc zero)) = first_name
role_at (suc (suc (suc zero))) = second_name
role_at (suc (suc (suc (suc zero)))) = bound_digit
role_at (suc (suc (suc (suc (suc zero))))) = negated_digit
role_at (suc (suc (suc (suc (suc (suc zero)))))) = declaration_end
role_at (suc (suc (suc (suc (suc (suc (suc zero))))))) = assert_end
role_at (suc (suc (suc (suc (suc (suc (suc (suc n)))))))) = check_end

pub role-back : (r : Role) → role_at (role_no r) ≡ r
unfolding role_at role_no
role-back other = refl
role-back new_name = refl
role-back first_name = refl
role-back second_name = refl
role-back bound_digit = refl
role-back negated_digit = refl
role-back declaration_end = refl
role-back assert_end = refl
role-back check_end = refl

pub role-eq : (r s : Role) → role_no r ≡ role_no s → r ≡ s
role-eq r s e = sym (role-back r) ∙ ap role_at e ∙ role-back s

-- the role that has a number is the only one
pub by_its_number : (r : Role) {n : ℕ} → n ≡ role_no r → (ρ : Role) → role_no ρ ≡ n → r ≡ ρ
by_its_number r z ρ e = role-eq r ρ (sym z ∙ sym e)

-- and a number of none of the others is that of `other`
pub by_no-number : {n : ℕ} → (1 ≤ n → 8 < n) → (ρ : Role) → role_no ρ ≡ n → other ≡ ρ
unfolding role_no
by_no-number z other e = refl
by_no-number z new_name e = absurd (omega arith)
by_no-number z first_name e = absurd (omega arith)
by_no-number z second_name e = absurd (omega arith)
by_no-number z bound_digit e = absurd (omega arith)
by_no-number z negated_digit e = absurd (omega arith)
by_no-number z declaration_end e = absurd (omega arith)
by_no-number z assert_end e = absurd (omega arith)
by_no-number z check_end e = absurd (omega arith)

-- ---- the code's roles
coded : Role → Coded
coded other = Other
coded new_name = NewName
coded first_name = FirstName
coded second_name = SecondName
coded bound_digit = BoundDigit
coded negated_digit = NegatedDigit
coded declaration_end = DeclarationEnd
coded assert_end = AssertEnd
coded check_end = CheckEnd

coded-meant : (r : Coded) → coded (meant r) ≡ r
unfolding coded
coded-meant Other = refl
coded-meant NewName = refl
coded-meant FirstName = refl
coded-meant SecondName = refl
coded-meant BoundDigit = refl
coded-meant NegatedDigit = refl
coded-meant DeclarationEnd = refl
coded-meant AssertEnd = refl
coded-meant CheckEnd = refl

-- no two of them stand for one role
pub meant-once : (r s : Coded) → meant r ≡ meant s → r ≡ s
meant-once r s e = sym (coded-meant r) ∙ ap coded e ∙ coded-meant s

-- ---- kinds by numbers
unfoldable pub kind_no : Kind → ℕ
kind_no space = 0
kind_no line_end = 1
kind_no in_comment = 2
kind_no symbol_first = 3
kind_no symbol_byte = 4
kind_no digit = 5
kind_no leading_digit = 6
kind_no (exactly b) = suc (suc (suc (suc (suc (suc (suc b))))))

pub kind_at : ℕ → Kind
kind_at zero = space
kind_at (suc zero) = line_end
kind_at (suc (suc zero)) = in_comment
kind_at (suc (suc (suc zero))) = symbol_first
kind_at (suc (suc (suc (suc zero)))) = symbol_byte
kind_at (suc (suc (suc (suc (suc zero))))) = digit
kind_at (suc (suc (suc (suc (suc (suc zero)))))) = leading_digit
kind_at (suc (suc (suc (suc (suc (suc (suc b))))))) = exactly b

pub kind-back : (k : Kind) → kind_at (kind_no k) ≡ k
unfolding kind_at kind_no
kind-back space = refl
kind-back line_end = refl
kind-back in_comment = refl
kind-back symbol_first = refl
kind-back symbol_byte = refl
kind-back digit = refl
kind-back leading_digit = refl
kind-back (exactly b) = refl

-- two that have one number are equal
unfoldable pub by_number : {A : Type 0} (f : A → ℕ) (f' : ℕ → A) → ((a : A) → f' (f a) ≡ a) → (a b : A) → Option (a ≡ b)
by_number {A} f f' back a b = go (eqb (f a) (f b)) (eqb→eq (f a) (f b))
  where
    go : (t : Bool) → (T t → f a ≡ f b) → Option (a ≡ b)
    go true e = equal (sym (back a) ∙ ap f' (e tt) ∙ back b)
    go false e = differ

unfoldable pub both : {A B C : Type 0} (f : A → B → C) {a x : A} {b y : B} → Option (a ≡ x) → Option (b ≡ y) → Option (f a b ≡ f x y)
both f differ q = differ
both f (equal p) differ = differ
both f (equal p) (equal q) = equal (ap₂ f p q)

unfoldable pub kept : {A C : Type 0} (f : A → C) {a x : A} → Option (a ≡ x) → Option (f a ≡ f x)
kept f differ = differ
kept f (equal p) = equal (ap f p)

-- ---- grammars
unfoldable pub same : (g h : Grammar) → Option (g ≡ h)
same none none = equal refl
same none empty = differ
same none (one s l) = differ
same none (h then l) = differ
same none (h either l) = differ
same none (many h) = differ
same empty none = differ
same empty empty = equal refl
same empty (one s l) = differ
same empty (h then l) = differ
same empty (h either l) = differ
same empty (many h) = differ
same (one r k) none = differ
same (one r k) empty = differ
same (one r k) (one s l) = both one (by_number role_no role_at role-back r s) (by_number kind_no kind_at kind-back k l)
same (one r k) (h then l) = differ
same (one r k) (h either l) = differ
same (one r k) (many h) = differ
same (f then g) none = differ
same (f then g) empty = differ
same (f then g) (one s l) = differ
same (f then g) (h then l) = both ◌then◌ (same f h) (same g l)
same (f then g) (h either l) = differ
same (f then g) (many h) = differ
same (f either g) none = differ
same (f either g) empty = differ
same (f either g) (one s l) = differ
same (f either g) (h then l) = differ
same (f either g) (h either l) = both ◌either◌ (same f h) (same g l)
same (f either g) (many h) = differ
same (many f) none = differ
same (many f) empty = differ
same (many f) (one s l) = differ
same (many f) (h then l) = differ
same (many f) (h either l) = differ
same (many f) (many h) = kept many (same f h)

abbrev pub is_equal : {A : Type 0} → Option A → Bool
is_equal differ = false
is_equal (equal p) = true

pub equal_is : {A : Type 0} (o : Option A) → T (is_equal o) → A
equal_is differ t = absurd t
equal_is (equal p) t = p
