-- The parts of a rewrite in the order in which a manager takes its passes: the first one's comes first.
use Rattle.std.proofs.Common.{◌≡◌, ℕ, zero, suc, ◌+◌, Bool, true, false, List, [], ◌∷◌, ◌++◌, length, sym, refl, ap, ap₂, ◌∙◌, append_assoc, ⊎_elim, arith}
use mathlib.Core.Option.{some, some-ne-none}
use lib.ListN.{get_elem?}
use Rattle.grid.specs.Shape.{total}
use Rattle.pin_core.specs.declared.view.Call.{Call}
use Rattle.history_core.specs.Log.{writes_in}
use Rattle.grid.proofs.Sums.{total-both}
use Rattle.history_core.proofs.Calls.{at_both}
use Rattle.backend_pass.specs.Closing.{calls_in_order, calls_of_passes}
use Rattle.backend_pass.specs.Managers.{first_in, is_first, others_in}
use Rattle.backend_pass.specs.Passes.{PassState}
use Rattle.backend_pass.proofs.Joining.{first_here, first_past, others_here, others_past}
use Rattle.page_jobs.specs.Rewrites.{Outcome, Rule, calls_for}
use Rattle.page_jobs.specs.RewriteEnds.{WroteNothing, BackendCalls, all_done, block_weight, calls_of_backends, times}
use Rattle.grid.proofs.Lists.{at_longer}
use Rattle.page_jobs.proofs.RewriteCounts.{at_right}
use Rattle.page_jobs.proofs.Backends.{puts_nothing}

-- each pass has its part
abbrev pub HaveParts : Rule → List PassState → List BackendCalls → Type 0
HaveParts r [] [] = Unit {0}
HaveParts r [] (p ∷ ps) = ⊥
HaveParts r (z ∷ zs) [] = ⊥
HaveParts r (z ∷ zs) (p ∷ ps) = (z.view.calls ≡ p.before ++ (calls_for r p.done ++ p.after)) × HaveParts r zs ps

-- The first pass's part, and those of the others
pub record InOrder (r : Rule) (zs : List PassState) (ps : List BackendCalls) : Type 0 where
  pub first : BackendCalls
  pub others : List BackendCalls
  pub first_calls : (first_in zs).calls ≡ first.before ++ (calls_for r first.done ++ first.after)
  pub other_calls : calls_of_passes (others_in zs) ≡ calls_of_backends r others
  pub same : (b : ℕ) → times b first.done + times b (all_done others) ≡ times b (all_done ps)
  pub among : (k : ℕ) (o : Outcome) → get_elem? (all_done (first ∷ others)) k ≡ some o → (j : ℕ) × (get_elem? (all_done ps) j ≡ some o)
  pub onto : (j : ℕ) (o : Outcome) → get_elem? (all_done ps) j ≡ some o → (k : ℕ) × (get_elem? (all_done (first ∷ others)) k ≡ some o)
  pub first_reads : (writes_in first.before ≡ 0) × (writes_in first.after ≡ 0)
  pub other_reads : WroteNothing others

pub all_calls : (r : Rule) (zs : List PassState) (ps : List BackendCalls) → HaveParts r zs ps → calls_of_passes zs ≡ calls_of_backends r ps
all_calls r [] [] h = refl
all_calls r [] (p ∷ ps) h = absurd h
all_calls r (z ∷ zs) [] h = absurd h
all_calls r (z ∷ zs) (p ∷ ps) h =
    ap₂ (λ (a b : List Call). a ++ b) h.0 (all_calls r zs ps h.1)
    ∙ append_assoc p.before (calls_for r p.done ++ p.after) (calls_of_backends r ps)
    ∙ ap (λ (l : List Call). p.before ++ l) (append_assoc (calls_for r p.done) p.after (calls_of_backends r ps))

-- an outcome of one of two parts is one of both
left_of : (os us : List Outcome) (k : ℕ) (o : Outcome) → get_elem? os k ≡ some o → (j : ℕ) × (get_elem? (os ++ us) j ≡ some o)
left_of os us k o at = (k, at_longer os us k o at)

right_of : (os us : List Outcome) (k : ℕ) (o : Outcome) → get_elem? us k ≡ some o → (j : ℕ) × (get_elem? (os ++ us) j ≡ some o)
right_of os us k o at = (length os + k, at_right os us k o at)

first_comes : (r : Rule) (z : PassState) (zs : List PassState) (p : BackendCalls) (ps : List BackendCalls) → is_first z ≡ true → HaveParts r (z ∷ zs) (p ∷ ps) → WroteNothing (p ∷ ps) → InOrder r (z ∷ zs) (p ∷ ps)
first_comes r z zs p ps is h reads = record {
  first = p;
  others = ps;
  first_calls = ap (λ v. v.calls) (first_here z zs is) ∙ h.0;
  other_calls = ap calls_of_passes (others_here z zs is) ∙ all_calls r zs ps h.1;
  same = λ b. sym (total-both (block_weight b) p.done (all_done ps));
  among = λ k o at. (k, at);
  onto = λ j o at. (j, at);
  first_reads = reads zero p refl;
  other_reads = λ k q at. reads (suc k) q at;
}

first_later : (r : Rule) (z : PassState) (zs : List PassState) (p : BackendCalls) (ps : List BackendCalls) → is_first z ≡ false → z.view.calls ≡ p.before ++ (calls_for r p.done ++ p.after) → WroteNothing (p ∷ ps) → InOrder r zs ps → InOrder r (z ∷ zs) (p ∷ ps)
first_later r z zs p ps later calls reads x = record {
  first = x.first;
  others = p ∷ x.others;
  first_calls = ap (λ v. v.calls) (first_past z zs later) ∙ x.first_calls;
  other_calls = ap calls_of_passes (others_past z zs later) ∙ ap₂ (λ (a b : List Call). a ++ b) calls x.other_calls
      ∙ append_assoc p.before (calls_for r p.done ++ p.after) (calls_of_backends r x.others)
      ∙ ap (λ (l : List Call). p.before ++ l) (append_assoc (calls_for r p.done) p.after (calls_of_backends r x.others));
  same = λ b. let s = x.same b in let a = total-both (block_weight b) p.done (all_done x.others) in let c = total-both (block_weight b) p.done (all_done ps) in omega arith;
  among = λ k o at. ⊎_elim
      (λ (t : get_elem? x.first.done k ≡ some o). let y = x.among k o (at_longer x.first.done (all_done x.others) k o t) in right_of p.done (all_done ps) y.0 o y.1)
      (λ (t : (j : ℕ) × (get_elem? (p.done ++ all_done x.others) j ≡ some o)). ⊎_elim
      (λ (u : get_elem? p.done t.0 ≡ some o). left_of p.done (all_done ps) t.0 o u)
      (λ (u : (j : ℕ) × (get_elem? (all_done x.others) j ≡ some o)). let y = x.among (length x.first.done + u.0) o (at_right x.first.done (all_done x.others) u.0 o u.1) in right_of p.done (all_done ps) y.0 o y.1)
      (at_both p.done (all_done x.others) t.0 o t.1))
      (at_both x.first.done (p.done ++ all_done x.others) k o at);
  onto = λ j o at. ⊎_elim
      (λ (t : get_elem? p.done j ≡ some o). let y = left_of p.done (all_done x.others) j o t in right_of x.first.done (p.done ++ all_done x.others) y.0 o y.1)
      (λ (t : (i : ℕ) × (get_elem? (all_done ps) i ≡ some o)). let y = x.onto t.0 o t.1 in ⊎_elim
      (λ (u : get_elem? x.first.done y.0 ≡ some o). left_of x.first.done (p.done ++ all_done x.others) y.0 o u)
      (λ (u : (i : ℕ) × (get_elem? (all_done x.others) i ≡ some o)). let v = right_of p.done (all_done x.others) u.0 o u.1 in right_of x.first.done (p.done ++ all_done x.others) v.0 o v.1)
      (at_both x.first.done (all_done x.others) y.0 o y.1))
      (at_both p.done (all_done ps) j o at);
  first_reads = x.first_reads;
  other_reads = others;
}
  where
    others : WroteNothing (p ∷ x.others)
    others zero q at = reads zero q at
    others (suc k) q at = x.other_reads k q at

by_first : (r : Rule) (b : Bool) (z : PassState) (zs : List PassState) (p : BackendCalls) (ps : List BackendCalls) → is_first z ≡ b → HaveParts r (z ∷ zs) (p ∷ ps) → WroteNothing (p ∷ ps) → InOrder r zs ps → InOrder r (z ∷ zs) (p ∷ ps)
by_first r true z zs p ps is h reads x = first_comes r z zs p ps is h reads
by_first r false z zs p ps is h reads x = first_later r z zs p ps is h.0 reads x

pub in_order : (r : Rule) (zs : List PassState) (ps : List BackendCalls) → HaveParts r zs ps → WroteNothing ps → InOrder r zs ps
unfolding total
in_order r [] [] h reads = record {
  first = record { before = []; done = []; after = [] };
  others = [];
  first_calls = refl;
  other_calls = refl;
  same = λ b. refl;
  among = λ k o at. (k, at);
  onto = λ j o at. (j, at);
  first_reads = (puts_nothing, puts_nothing);
  other_reads = λ k q at. absurd (some-ne-none q (sym at));
}
in_order r [] (p ∷ ps) h reads = absurd h
in_order r (z ∷ zs) [] h reads = absurd h
in_order r (z ∷ zs) (p ∷ ps) h reads = by_first r (is_first z) z zs p ps refl h reads (in_order r zs ps h.1 (λ k q at. reads (suc k) q at))

-- the calls of all passes are those of the parts
pub calls_ordered : (r : Rule) (zs : List PassState) (ps : List BackendCalls) (x : InOrder r zs ps) → calls_in_order zs ≡ calls_of_backends r (x.first ∷ x.others)
calls_ordered r zs ps x =
    ap₂ (λ (a b : List Call). a ++ b) x.first_calls x.other_calls
    ∙ append_assoc x.first.before (calls_for r x.first.done ++ x.first.after) (calls_of_backends r x.others)
    ∙ ap (λ (l : List Call). x.first.before ++ l) (append_assoc (calls_for r x.first.done) x.first.after (calls_of_backends r x.others))
