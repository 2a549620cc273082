-- The bodies of functions, by the number of arguments.
use Rattle.std.proofs.Common.{◌≡◌, ℕ, zero, suc, ◌≤◌, List, [], ◌∷◌, Bool, true, false, cond, nat_eq, Option, Some, None, refl, sym, ap, subst, ◌∙◌, arith}
use Rattle.std.specs.Prelude.{slice_get, ◌==◌, if◌then◌else◌}
use Rattle.std.proofs.Math.Nat.{le-max_left, le-max_right}
use Rattle.clj_script.specs.Seen.{body_among}
use Rattle.clj_script.specs.Trees.{Expr}
use Rattle.seq_meaning.specs.Evaluates.{body_for, body_in}
use Rattle.eval_frames.specs.Weights.{weight, heaviest_body, heaviest_function}

same_test : (b : Bool) (x y : Option Expr) → (if b then x else y) ≡ cond b x y
same_test true x y = refl
same_test false x y = refl

body_same : (bs : List (ℕ × Expr)) (n : ℕ) → body_for bs n ≡ body_among bs n
body_same [] n = refl
body_same (b ∷ bs) n = ap (cond (nat_eq b.0 n) (Some b.1)) (body_same bs n) ∙ sym (same_test (b.0 == n) (Some b.1) (body_among bs n))

pub bodies_same : (o : Option (List (ℕ × Expr))) (n : ℕ) → body_in o n ≡ Rattle.clj_script.specs.Seen.body_in o n
bodies_same None n = refl
bodies_same (Some bs) n = body_same bs n

here_or_later : (b : ℕ × Expr) (bs : List (ℕ × Expr)) (o : Option Expr) (e : Expr) (t : Bool) → cond t (Some b.1) o ≡ Some e → (o ≡ Some e → weight e ≤ heaviest_body bs) → weight e ≤ heaviest_body (b ∷ bs)
here_or_later b bs o e true q later = let r : b.1 ≡ e = cc in subst (λ x. weight x ≤ heaviest_body (b ∷ bs)) r (le-max_left (weight b.1) (heaviest_body bs))
here_or_later b bs o e false q later = let h = later q in let k = le-max_right (weight b.1) (heaviest_body bs) in omega (arith, h, k)

in_body : (bs : List (ℕ × Expr)) (n : ℕ) (e : Expr) → body_for bs n ≡ Some e → weight e ≤ heaviest_body bs
in_body [] n e p = absurd cc
in_body (b ∷ bs) n e p = here_or_later b bs (body_for bs n) e (nat_eq b.0 n) p (λ q. in_body bs n e q)

pub in_functions : (fs : List (List (ℕ × Expr))) (i n : ℕ) (e : Expr) → body_in (slice_get fs i) n ≡ Some e → weight e ≤ heaviest_function fs
in_functions [] i n e p = absurd cc
in_functions (f ∷ fs) zero n e p = let h = in_body f n e p in let k = le-max_left (heaviest_body f) (heaviest_function fs) in omega (arith, h, k)
in_functions (f ∷ fs) (suc i) n e p = let h = in_functions fs i n e p in let k = le-max_right (heaviest_body f) (heaviest_function fs) in omega (arith, h, k)
