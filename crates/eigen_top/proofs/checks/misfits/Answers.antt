-- `eigen_top::checks::misfits` meets its contract. Where n * n does not fit, it is above every length.
use Rattle.lists.proofs.Base.{◌≡◌, sym, ◌∙◌, ℕ, ◌+◌, ◌*◌, ◌<◌, ◌≤◌, mul-le-mul, mul-le-mul_right, dec_lt, arith, eq-eqb, ne_eqb}
use Rattle.eigen_top.specs.TopLines.{misfits}
use Rattle.eigen_top.proofs.checks.misfits.Goals as goal

pub returns-in_default : goal.returns-in_default
unfolding misfits
returns-in_default c = let a = c.args in rw (ne_eqb a.a (a.n * a.n) (λ e. omega (arith, c.in_default.ensures)))

root-fits : (n : ℕ) → n * n < 0x1_0000_0000_0000_0000 → n ≤ 0xffff_ffff
root-fits n h = elim (dec_lt 0xffff_ffff n) [ yes g ↦ absurd (omega (arith, mul-le-mul {n₁ = 0x1_0000_0000} {m₁ = 0x1_0000_0000} g g)) | no g ↦ omega arith ]

-- with its root a product still fits, as do k more for each of n
rest-fits : (k n s : ℕ) → k ≤ n → s ≡ n * n → n * n < 0x1_0000_0000_0000_0000 → (k + k * n < 0x1_0000_0000_0000_0000) × (n + s < 0x1_0000_0000_0000_0000)
rest-fits k n s h e g =
    let small = root-fits n g in
    let most : n * n ≤ 0xffff_fffe_0000_0001 = mul-le-mul small small in
    let fewer : k * n ≤ n * n = mul-le-mul_right n h in
    (omega arith, omega arith)

pub overflow_add-k : goal.overflow_add-k
overflow_add-k c = let fits = rest-fits c.args.k c.args.n c.in-Some.s c.requires c.in-Some.ensures.1 c.in-Some.ensures.0 in omega arith

pub overflow_add-n : goal.overflow_add-n
overflow_add-n c = let fits = rest-fits c.args.k c.args.n c.in-Some.s c.requires c.in-Some.ensures.1 c.in-Some.ensures.0 in omega arith

pub returns-then-a-s : goal.returns-then-a-s
unfolding misfits
returns-then-a-s c =
    let a = c.args in
    let s : c.in-Some.s ≡ a.n * a.n = c.in-Some.ensures.1 in
    rw (ne_eqb a.a c.in-Some.s c.if-a-s.true, ne_eqb a.a (a.n * a.n) (λ e. c.if-a-s.true (e ∙ sym s)))

pub returns-else-a-s : goal.returns-else-a-s
unfolding misfits
returns-else-a-s c =
    let a = c.args in
    let s : c.in-Some.s ≡ a.n * a.n = c.in-Some.ensures.1 in
    rw (eq-eqb a.a (a.n * a.n) (c.if-a-s.false ∙ s)) (rw s at c.is_short.ensures)
