-- A number tells which refusal or answer it is. Assumes nothing.
use Rattle.std.proofs.Common.{◌≡◌, refl, sym, ap, ◌∙◌}
use Rattle.std.specs.Prelude.{ℕ, zero, suc, Result, Ok, Err}
use Rattle.terms.specs.declared.refusal.Refusal.{Refusal}
use Rattle.terms.specs.declared.refusal.Refusal.TheVariants.{BadSide, ShortSource, BadBlock, BadPosition, ShortOutput, NotServed, BadReference}
use Rattle.terms.specs.Refusal.{number_of, answered}

abbrev refusal_of : ℕ → Refusal
refusal_of zero = BadSide
refusal_of (suc zero) = BadSide
refusal_of (suc (suc zero)) = ShortSource
refusal_of (suc (suc (suc zero))) = BadBlock
refusal_of (suc (suc (suc (suc zero)))) = BadPosition
refusal_of (suc (suc (suc (suc (suc zero))))) = ShortOutput
refusal_of (suc (suc (suc (suc (suc (suc zero)))))) = NotServed
refusal_of (suc (suc (suc (suc (suc (suc (suc n))))))) = BadReference

abbrev answer_of : ℕ → Result (Unit {0}) Refusal
answer_of zero = Ok tt
answer_of (suc n) = Err (refusal_of (suc n))

is_refusal : (e : Refusal) → refusal_of (number_of e) ≡ e
is_refusal BadSide = refl
is_refusal ShortSource = refl
is_refusal BadBlock = refl
is_refusal BadPosition = refl
is_refusal ShortOutput = refl
is_refusal NotServed = refl
is_refusal BadReference = refl

is_answer : (p : Result (Unit {0}) Refusal) → answer_of (answered p) ≡ p
is_answer (Ok tt) = refl
is_answer (Err BadSide) = refl
is_answer (Err ShortSource) = refl
is_answer (Err BadBlock) = refl
is_answer (Err BadPosition) = refl
is_answer (Err ShortOutput) = refl
is_answer (Err NotServed) = refl
is_answer (Err BadReference) = refl

pub one_refusal : (p q : Refusal) → number_of p ≡ number_of q → p ≡ q
one_refusal p q e = sym (is_refusal p) ∙ ap refusal_of e ∙ is_refusal q

-- of a call that gives nothing but its answer
pub one_answer : (p q : Result (Unit {0}) Refusal) → answered p ≡ answered q → p ≡ q
one_answer p q e = sym (is_answer p) ∙ ap answer_of e ∙ is_answer q
