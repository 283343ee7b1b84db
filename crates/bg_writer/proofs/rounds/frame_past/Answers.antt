use Rattle.std.proofs.Common.{◌≡◌, ◌+◌, ◌%◌, ◌/◌, ℕ, sym, ap, ◌∙◌, arith}
use Rattle.std.proofs.lemmas.Nat.{div-add-mod'}
use Rattle.std.proofs.Math.Nat.{mul-add-mod_self_right}
use Rattle.bg_writer.proofs.rounds.frame_past.Goals as goal

mod_add : (h p n : ℕ) → (h % n + p) % n ≡ (h + p) % n
mod_add h p n = sym (mul-add-mod_self_right (h / n) n (h % n + p)) ∙ ap (λ x. x % n) (omega (arith, div-add-mod' h n))

pub returns : goal.returns
returns c = mod_add c.args.hand c.from.result c.from-frames.result ∙ ap (λ (x : ℕ). (c.args.hand + x) % c.from-frames.result) c.from.ensures ∙ ap (λ (x : ℕ). (c.args.hand + c.args.places) % x) c.from-frames.ensures
