-- Passes become workers, and are given back.
use Rattle.std.proofs.Common.{◌≡◌, ℕ, zero, suc, ◌+◌, ◌-◌, ◌<◌, List, [], ◌∷◌, ◌++◌, length, map, take, refl, sym, ap, ◌∙◌, subst, arith, append_assoc}
use Rattle.std.specs.Prelude.{Option, slice_index_or}
use Rattle.std.proofs.lemmas.List.{append-nil, length-append, map-append, reverse-append}
use mathlib.Core.List.{reverse}
use Rattle.segment_store.specs.Contents.{Pages}
use Rattle.backend_pass.specs.declared.manager.Manager.{Manager}
use Rattle.chunk_claims.specs.declared.claims.Claims.{Claims}
use Rattle.backend_pass.specs.Passes.{PassState}
use Rattle.page_jobs.specs.declared.working.Worker.{Worker}
use Rattle.grid.specs.Shape.{total}
use Rattle.grid.proofs.Sums.{total-both, total-snoc}
use Rattle.chunk_claims.specs.declared.claimant.Claimant.{Claimant}
use Rattle.chunk_claims.specs.Claims.{joined_claimants, less_a_part, with_one_part}
use Rattle.page_jobs.specs.Dealt.{AreDealt, IsDealing, IsDealt, IsReady, total_drawn}
use Rattle.page_jobs.specs.Jobs.{HaveNoTokens, workers_in}
use Rattle.backend_pass.specs.Between.{HasNoTokens}
use Rattle.page_jobs.specs.Working.{CanBegin, ClaimsNothing}

reverse_snoc : {A : Type 0} (l : List A) (a : A) → reverse (l ++ a ∷ []) ≡ a ∷ reverse l
reverse_snoc l a = reverse-append l (a ∷ [])

module _ {K : Type 0} (begins : K → Type 0) (claims : Claims) where
  pub record Dealing (ps rest : List PassState) (ws : List (Worker K)) : Type 0 where
    pub done : List PassState
    pub parts : ps ≡ rest ++ done
    pub dealt : AreDealt begins claims (length rest) done (reverse ws)
    pub count : length rest + length ws ≡ length ps

  pub dealing_first : (ps rest : List PassState) (ws : List (Worker K)) → rest ≡ ps → ws ≡ [] → Dealing ps rest ws
  dealing_first ps rest ws same none = record {
    done = [];
    parts = sym same ∙ sym (append-nil rest);
    dealt = subst (λ (l : List (Worker K)). AreDealt begins claims (length rest) [] (reverse l)) (sym none) tt;
    count = let a = ap length same in let b = ap length none in omega arith;
  }

  pub dealing_more : (ps rest rest' : List PassState) (ws ws' : List (Worker K)) (p : PassState) (w : Worker K) → Dealing ps rest ws → rest ≡ rest' ++ p ∷ [] → ws' ≡ ws ++ w ∷ []
      → IsDealt begins claims (length rest') p w → Dealing ps rest' ws'
  dealing_more ps rest rest' ws ws' p w d split more one =
      let n : length rest ≡ length rest' + 1 = ap length split ∙ length-append rest' (p ∷ []) in
      let others : AreDealt begins claims (length rest' + 1) d.done (reverse ws) = subst (λ (k : ℕ). AreDealt begins claims k d.done (reverse ws)) n d.dealt in
      record {
        done = p ∷ d.done;
        parts = d.parts ∙ ap (λ (l : List PassState). l ++ d.done) split ∙ append_assoc rest' (p ∷ []) d.done;
        dealt = subst (λ (l : List (Worker K)). AreDealt begins claims (length rest') (p ∷ d.done) l) (sym (ap reverse more ∙ reverse_snoc ws w)) (one, others);
        count = let c = d.count in let e = ap length more ∙ length-append ws (w ∷ []) in omega arith;
      }

  pub dealing_all : (ps rest : List PassState) (ws : List (Worker K)) → Dealing ps rest ws → rest ≡ [] → AreDealt begins claims 0 ps (reverse ws)
  dealing_all ps rest ws d none =
      subst (λ (n : ℕ). AreDealt begins claims n ps (reverse ws)) (ap length none)
      (subst (λ (l : List PassState). AreDealt begins claims (length rest) l (reverse ws)) (sym (d.parts ∙ ap (λ (l : List PassState). l ++ d.done) none)) d.dealt)

-- the first seat gives a part away
pub cut_off : (chunks workers n : ℕ) (c d : Claimant) → IsDealing chunks workers (n + 1) c → d ≡ less_a_part c → IsDealing chunks workers n d
cut_off chunks workers n c d h is = subst (IsDealing chunks workers n) (sym is) record { chunks_are = h.chunks_are; workers_are = h.workers_are; parts_are = (let p = h.parts_are in omega (arith, p)); past = h.past; drawn = h.drawn }

pub one_part : (chunks workers n : ℕ) (c d : Claimant) → IsDealing chunks workers n c → d ≡ with_one_part c → ClaimsNothing chunks workers d
one_part chunks workers n c d h is = subst (ClaimsNothing chunks workers) (sym is) record { chunks_are = h.chunks_are; workers_are = h.workers_are; part = (refl, refl); drawn = refl }

-- and takes a worker's back
pub drawn_first : {K : Type 0} (g : ℕ → ℕ) (ws ws' : List (Worker K)) (w : Worker K) (c d : Claimant) (all : ℕ) → ws ≡ ws' ++ w ∷ [] → d ≡ joined_claimants c w.seat.me.0 → total g c.drawn + total_drawn g ws ≡ all → total g d.drawn + total_drawn g ws' ≡ all
drawn_first {K = K} g ws ws' w c d all split is so_far =
    let both = ap (λ (x : Claimant). total g x.drawn) is ∙ total-both g c.drawn w.seat.me.0.drawn in
    let last = ap (λ (l : List (Worker K)). total_drawn g l) split ∙ total-snoc (λ (x : Worker K). total g x.seat.me.0.drawn) ws' w in
    omega (arith, both, last, so_far)

pub none_drawn : (K : Type 0) (g : ℕ → ℕ) → total_drawn {K = K} g [] ≡ 0
unfolding total
none_drawn K g = refl

-- a pass moves from the last worker to the end of a list
pub gathered : {K : Type 0} (ws ws' : List (Worker K)) (ps ps' all : List PassState) (w : Worker K) → map (λ (x : Worker K). x.pass) ws ++ reverse ps ≡ all → ws ≡ ws' ++ w ∷ [] → ps' ≡ ps ++ w.pass ∷ [] → map (λ (x : Worker K). x.pass) ws' ++ reverse ps' ≡ all
gathered {K = K} ws ws' ps ps' all w so_far split more =
    ap (λ (l : List PassState). map (λ (x : Worker K). x.pass) ws' ++ reverse l) more
    ∙ ap (λ (l : List PassState). map (λ (x : Worker K). x.pass) ws' ++ l) (reverse_snoc ps w.pass)
    ∙ sym (append_assoc (map (λ (x : Worker K). x.pass) ws') (w.pass ∷ []) (reverse ps))
    ∙ ap (λ (l : List PassState). l ++ reverse ps) (sym (map-append (λ (x : Worker K). x.pass) ws' (w ∷ [])))
    ∙ ap (λ (l : List (Worker K)). map (λ (x : Worker K). x.pass) l ++ reverse ps) (sym split)
    ∙ so_far

module _ {L G : Type 0} (contents : L → Option Pages) (m : Manager L G) where
  module _ {K : Type 0} (begins : K → Type 0) (claims : Claims) (fits : K → ℕ → Type 0) (opens : K → Type 0) (starts : (k : K) → begins k → CanBegin fits k × opens k) where
    ready_one : (number : ℕ) (p : PassState) (w : Worker K) → IsDealt begins claims number p w → HasNoTokens contents m p → IsReady contents m claims fits opens w
    ready_one number p w d free = let s = starts w.task d.task in record { free = subst (HasNoTokens contents m) (sym d.pass) free; seat = d.seat; task = s.0; opened = s.1 }

    pub all_ready : (number : ℕ) (ps : List PassState) (ws : List (Worker K)) → AreDealt begins claims number ps ws → HaveNoTokens contents m ps → (i : ℕ) (d : Worker K) → i < length ws → IsReady contents m claims fits opens (slice_index_or ws i d)
    all_ready number [] [] a free i d below = absurd (omega arith)
    all_ready number [] (w ∷ ws) a free i d below = absurd a
    all_ready number (p ∷ ps) [] a free i d below = absurd a
    all_ready number (p ∷ ps) (w ∷ ws) a free zero d below = ready_one number p w a.0 free.0
    all_ready number (p ∷ ps) (w ∷ ws) a free (suc i) d below = all_ready (number + 1) ps ws a.1 free.1 i d (omega arith)

  -- the passes before the last one
  pub free_front : (ps qs : List PassState) → HaveNoTokens contents m (ps ++ qs) → HaveNoTokens contents m ps
  free_front [] qs free = tt
  free_front (p ∷ ps) qs free = (free.0, free_front ps qs free.1)

  -- and those after them
  pub free_back : (ps qs : List PassState) → HaveNoTokens contents m (ps ++ qs) → HaveNoTokens contents m qs
  free_back [] qs free = free
  free_back (p ∷ ps) qs free = free_back ps qs free.1

-- the first of some passes
pub free_taken : {L G : Type 0} (contents : L → Option Pages) (m : Manager L G) (n : ℕ) (ps : List PassState) → HaveNoTokens contents m ps → HaveNoTokens contents m (take n ps)
free_taken contents m zero ps free = tt
free_taken contents m (suc n) [] free = tt
free_taken contents m (suc n) (p ∷ ps) free = (free.0, free_taken contents m n ps free.1)

take_front : (ps qs : List PassState) (n : ℕ) → n ≡ length ps → take n (ps ++ qs) ≡ ps
take_front [] qs zero e = refl
take_front [] qs (suc n) e = absurd (omega arith)
take_front (p ∷ ps) qs zero e = absurd (omega arith)
take_front (p ∷ ps) qs (suc n) e = ap (λ (l : List PassState). p ∷ l) (take_front ps qs n (omega arith))

pub less_one : (ps : List PassState) (p : PassState) → length (ps ++ p ∷ []) - 1 ≡ length ps
less_one ps p = let l = length-append ps (p ∷ []) in omega arith

pub workers_before : (all ps : List PassState) (p : PassState) → all ≡ ps ++ p ∷ [] → workers_in all ≡ ps
workers_before all ps p e = ap workers_in e ∙ take_front ps (p ∷ []) (length (ps ++ p ∷ []) - 1) (less_one ps p)
