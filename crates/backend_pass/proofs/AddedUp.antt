-- What the passes' views have added to the counters of the table.
use Rattle.std.proofs.Common.{◌≡◌, ℕ, zero, suc, ◌+◌, ◌≤◌, List, [], ◌∷◌, refl, ap, ◌∙◌, arith}
use Rattle.grid.specs.Shape.{at_key, total}
use Rattle.grid.proofs.Sums.{total-both}
use Rattle.pin_core.specs.declared.view.Published.{Published}
use Rattle.pin_core.specs.declared.view.View.{View}
use Rattle.pin_core.specs.State.{joined_view}
use Rattle.history_core.specs.Balances.{added_to}
use Rattle.io_counts.specs.declared.contexts.ByContext.{ByContext}
use Rattle.io_counts.specs.Additions.{io_counters, view_adding}
use Rattle.io_counts.specs.Sums.{io_sum}
use Rattle.backend_pass.specs.Closing.{EachPass, joined_views}
use Rattle.backend_pass.specs.Counts.{io_in_all}
use Rattle.backend_pass.specs.Managers.{IsFirstAt, first_in, others_in}
use Rattle.backend_pass.specs.Passes.{HasPublished, PassState}
use Rattle.backend_pass.proofs.Joining.{at_later, first_here, first_past, others_here, others_past}

-- how much all passes have added to the counter of this number
abbrev pub added_by_all : List PassState → ℕ → ℕ
added_by_all ps n = total (λ (p : PassState). added_to n p.view) ps

-- after further additions it is no less
pub added_more : (n : ℕ) (more : List Published) (v : View) → added_to n v ≤ added_to n (view_adding more v)
added_more n more v = let both : added_to n (view_adding more v) ≡ added_to n v + total (at_key (λ (q : Published). q.count) (λ (q : Published). q.more) n) more = total-both (at_key (λ (q : Published). q.count) (λ (q : Published). q.more) n) v.published more in omega arith

-- a view that takes in others has added what they have
added_joined : (n : ℕ) (v : View) (ps : List PassState) → added_to n (joined_views v ps) ≡ added_to n v + added_by_all ps n
unfolding total
added_joined n v [] = omega arith
added_joined n v (p ∷ ps) =
    let later = added_joined n (joined_view v p.view) ps in
    let both = total-both (at_key (λ (q : Published). q.count) (λ (q : Published). q.more) n) v.published p.view.published in
    omega arith

-- the first pass and the others
added_standing : (n : ℕ) (ps : List PassState) (k : ℕ) → IsFirstAt k ps → added_by_all ps n ≡ added_to n (first_in ps) + added_by_all (others_in ps) n
unfolding total
added_standing n [] k s = let inside = s.inside in absurd (omega arith)
added_standing n (p ∷ ps) zero s = let first = ap (added_to n) (first_here p ps (s.here p refl)) in let rest = ap (λ (l : List PassState). added_by_all l n) (others_here p ps (s.here p refl)) in omega arith
added_standing n (p ∷ ps) (suc k) s =
    let first = ap (added_to n) (first_past p ps s.before.0) in
    let rest = ap (λ (l : List PassState). added_by_all l n) (others_past p ps s.before.0) in
    let later = added_standing n ps k (at_later k p ps s) in
    omega arith

pub added_first : (n : ℕ) (ps : List PassState) (k : ℕ) → IsFirstAt k ps → added_to n (joined_views (first_in ps) (others_in ps)) ≡ added_by_all ps n
added_first n ps k s = let all = added_standing n ps k s in let joined = added_joined n (first_in ps) (others_in ps) in omega arith

-- which is what they count, if each has published that
pub added_counted : (ps : List PassState) → EachPass HasPublished ps → io_counters (added_by_all ps) ≡ io_in_all ps
unfolding total
added_counted [] told = refl
added_counted (p ∷ ps) told = ap (λ (io : ByContext). io_sum io (io_counters (added_by_all ps))) (told 0 p refl) ∙ ap (io_sum p.io) (added_counted ps (λ i q at. told (suc i) q at))

pub counters_same : (c d : ℕ → ℕ) → ((n : ℕ) → c n ≡ d n) → io_counters c ≡ io_counters d
counters_same c d e i = io_counters (λ n. e n i)
