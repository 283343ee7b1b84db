-- Blocks that several passes find, together.
use Rattle.std.proofs.Common.{◌≡◌, ℕ, suc, ◌+◌, List, [], ◌∷◌, refl, subst, arith}
use Rattle.io_counts.specs.Found.{FoundMore}
use Rattle.io_counts.proofs.Sums.{found_sum}
use Rattle.backend_pass.specs.Counts.{io_in_all}
use Rattle.backend_pass.specs.Passes.{PassState}
use Rattle.page_jobs.specs.Jobs.{FoundMoreIn}

-- no pass, and one more
pub no_pass_found : FoundMoreIn 0 [] []
no_pass_found = record { most = omega arith; exact = λ below. omega arith }

pub one_more_found : (m n : ℕ) (p q : PassState) (ps qs : List PassState) → FoundMore m p.io q.io → FoundMoreIn n ps qs → FoundMoreIn (m + n) (p ∷ ps) (q ∷ qs)
one_more_found m n p q ps qs one rest = record {
  most = let x = one.most in let y = rest.most in omega (arith, found_sum p.io (io_in_all ps), found_sum q.io (io_in_all qs));
  exact = λ below.
      let x = (one.exact (below 0 q refl)).1 in
      let y = rest.exact (λ i r at. below (suc i) r at) in
      omega (arith, x, y, found_sum p.io (io_in_all ps), found_sum q.io (io_in_all qs));
}

pub so_many_found : (m n : ℕ) (ps qs : List PassState) → m ≡ n → FoundMoreIn m ps qs → FoundMoreIn n ps qs
so_many_found m n ps qs same found = subst (λ (k : ℕ). FoundMoreIn k ps qs) same found
