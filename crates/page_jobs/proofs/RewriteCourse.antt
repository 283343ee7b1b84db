-- From the passes of a rewrite to the parts of its history.
use Rattle.std.proofs.Common.{◌≡◌, ℕ, zero, suc, ◌-◌, true, List, [], ◌∷◌, ◌++◌, length, refl, sym, ap, ◌∙◌, subst, append_assoc, ⊎_elim, arith}
use Rattle.std.specs.Prelude.{Option}
use mathlib.Core.Option.{some, some-injective, some-ne-none}
use lib.ListN.{get_elem?}
use Rattle.block_tag.specs.declared.tag.Fork.{Fork}
use Rattle.segment_store.specs.Contents.{Pages}
use Rattle.pin_core.specs.declared.view.Call.{Call}
use Rattle.pin_core.specs.declared.view.TornRecord.{TornRecord}
use Rattle.history_core.specs.Log.{writes_in}
use Rattle.history_core.proofs.Calls.{at_both}
use Rattle.backend_pass.specs.declared.manager.Manager.{Manager}
use Rattle.backend_pass.specs.Closing.{EachPass, PutNothing}
use Rattle.backend_pass.specs.Passes.{PassState}
use Rattle.page_jobs.specs.Jobs.{workers_in}
use Rattle.page_jobs.specs.Chunks.{Claimed, blocks_in_all, items_in_all}
use Rattle.page_jobs.specs.Parts.{blocks_in}
use Rattle.page_jobs.specs.Rewrites.{EachOutcome, IsEnded, Outcome, TornBy, TornOf, calls_for, is_ended, rule_of}
use Rattle.page_jobs.specs.Rewriting.{FollowsRule, RewritesBlocks}
use Rattle.page_jobs.specs.RewriteCloses.{PutsNoMore, RewritesAlone, ToreNothing}
use Rattle.page_jobs.specs.RewriteEnds.{WroteNothing, BackendCalls, all_done}
use Rattle.page_jobs.proofs.RewriteOrder.{HaveParts}
use Rattle.table_rule.proofs.Opens.{length_low}
use Rattle.backend_pass.proofs.Standing.{length_front, taken}
use Rattle.page_jobs.proofs.TornBlocks.{torn_first, torn_other}

each_at : (P : Outcome → Type 0) (os : List Outcome) (k : ℕ) (o : Outcome) → EachOutcome P os → get_elem? os k ≡ some o → P o
each_at P [] k o all at = absurd (some-ne-none o (sym at))
each_at P (x ∷ os) zero o all at = subst P (some-injective x o at) all.0
each_at P (x ∷ os) (suc k) o all at = each_at P os k o all.1 at

module _ {L G : Type 0} (contents : L → Option Pages) (m : Manager L G) (rel : ℕ) (fork : Fork) (W : Type 0) where
  -- A pass dealt with blocks of the chunks that it claimed, and where W holds with each to its end
  abbrev DidClaim : PassState → PassState → Claimed Outcome → Type 0
  DidClaim p q c = RewritesBlocks contents m rel fork (blocks_in_all (blocks_in m rel fork) c.chunks) c.items p q × (W → EachOutcome IsEnded c.items)

  -- what the passes failed to append is of these outcomes
  abbrev AllTornOf : List PassState → List Outcome → Type 0
  AllTornOf zs os = (i k : ℕ) (z : PassState) (x : TornRecord) → get_elem? zs i ≡ some z → get_elem? z.view.torn k ≡ some x → TornOf (rule_of rel fork) os x

  -- The parts of these passes, which claimed this
  pub record Parted (zs : List PassState) (cs : List (Claimed Outcome)) : Type 0 where
    pub parts : List BackendCalls
    pub dones : all_done parts ≡ items_in_all cs
    pub have : HaveParts (rule_of rel fork) zs parts
    pub reads : WroteNothing parts
    pub follow : (k : ℕ) (o : Outcome) → get_elem? (all_done parts) k ≡ some o → (number : ℕ) × FollowsRule contents m rel fork number o
    pub ended : W → (k : ℕ) (o : Outcome) → get_elem? (all_done parts) k ≡ some o → is_ended o ≡ true
    pub torn : AllTornOf zs (all_done parts)

  only_reads : (p : BackendCalls) (ps : List BackendCalls) → writes_in p.before ≡ 0 → writes_in p.after ≡ 0 → WroteNothing ps → WroteNothing (p ∷ ps)
  only_reads p ps before after rest zero x at = subst (λ (y : BackendCalls). (writes_in y.before ≡ 0) × (writes_in y.after ≡ 0)) (some-injective p x at) (before, after)
  only_reads p ps before after rest (suc k) x at = rest k x at

  none_read : WroteNothing []
  none_read k x at = absurd (some-ne-none x (sym at))

  none_torn : (z : PassState) (os : List Outcome) → z.view.torn ≡ [] → AllTornOf (z ∷ []) os
  none_torn z os none zero k y x at is = absurd (some-ne-none x (sym (subst (λ (l : List TornRecord). get_elem? l k ≡ some x) (ap (λ (w : PassState). w.view.torn) (sym (some-injective z y at)) ∙ none) is)))
  none_torn z os none (suc i) k y x at is = absurd (some-ne-none y (sym at))

  all_torn : (p z : PassState) (zs : List PassState) (os us : List Outcome) → ToreNothing p → TornBy (rule_of rel fork) os p.view.torn z.view.torn → AllTornOf zs us → AllTornOf (z ∷ zs) (os ++ us)
  all_torn p z zs os us none did rest zero k y x at is =
      let same : y.view.torn ≡ did.more = ap (λ (w : PassState). w.view.torn) (sym (some-injective z y at)) ∙ did.added ∙ ap (λ (l : List TornRecord). l ++ did.more) none in
      torn_first (rule_of rel fork) os us x (did.each k x (subst (λ (l : List TornRecord). get_elem? l k ≡ some x) same is))
  all_torn p z zs os us none did rest (suc i) k y x at is = torn_other (rule_of rel fork) os us x (rest i k y x at is)

  -- the pass that doesn't work
  beside : (p q z : PassState) → (q.view.calls ≡ p.view.calls) × (q.view.torn ≡ p.view.torn) → PutNothing p → ToreNothing p → PutsNoMore q z → Parted (z ∷ []) []
  beside p q z same before untorn after =
      let part : BackendCalls = record { before = p.view.calls; done = []; after = after.more } in
      record {
        parts = part ∷ [];
        dones = refl;
        have = (after.calls ∙ ap (λ (l : List Call). l ++ after.more) same.0, tt);
        reads = only_reads part [] before after.reads none_read;
        follow = λ k o at. absurd (some-ne-none o (sym at));
        ended = λ w k o at. absurd (some-ne-none o (sym at));
        torn = none_torn z [] (after.torn ∙ same.1 ∙ untorn);
      }

  -- one that works
  works : (p q z : PassState) (zs : List PassState) (c : Claimed Outcome) (cs : List (Claimed Outcome)) → DidClaim p q c → PutNothing p → ToreNothing p → PutsNoMore q z → Parted zs cs → Parted (z ∷ zs) (c ∷ cs)
  works p q z zs c cs did before untorn after rest =
      let r = rule_of rel fork in
      let os = c.items in
      let part : BackendCalls = record { before = p.view.calls; done = os; after = after.more } in
      record {
        parts = part ∷ rest.parts;
        dones = ap (λ (us : List Outcome). os ++ us) rest.dones;
        have = (after.calls ∙ ap (λ (l : List Call). l ++ after.more) did.0.calls ∙ append_assoc p.view.calls (calls_for r os) after.more, rest.have);
        reads = only_reads part rest.parts before after.reads rest.reads;
        follow = λ i o at. ⊎_elim
            (λ (t : get_elem? os i ≡ some o). (p.view.number, each_at (FollowsRule contents m rel fork p.view.number) os i o did.0.follow t))
            (λ (t : (n : ℕ) × (get_elem? (all_done rest.parts) n ≡ some o)). rest.follow t.0 o t.1)
            (at_both os (all_done rest.parts) i o at);
        ended = λ w i o at. ⊎_elim
            (λ (t : get_elem? os i ≡ some o). each_at IsEnded os i o (did.1 w) t)
            (λ (t : (n : ℕ) × (get_elem? (all_done rest.parts) n ≡ some o)). rest.ended w t.0 o t.1)
            (at_both os (all_done rest.parts) i o at);
        torn = all_torn p z zs os (all_done rest.parts) untorn (subst (λ (l : List TornRecord). TornBy r os p.view.torn l) (sym after.torn) did.0.torn) rest.torn;
      }

  parted : (ps qs zs : List PassState) (cs : List (Claimed Outcome)) → length ps ≡ suc (length cs) → length qs ≡ length ps → length zs ≡ length qs
      → ((i : ℕ) (p q : PassState) (c : Claimed Outcome) → get_elem? ps i ≡ some p → get_elem? qs i ≡ some q → get_elem? cs i ≡ some c → DidClaim p q c)
      → ((p q : PassState) → get_elem? ps (length cs) ≡ some p → get_elem? qs (length cs) ≡ some q → (q.view.calls ≡ p.view.calls) × (q.view.torn ≡ p.view.torn))
      → EachPass PutNothing ps → EachPass ToreNothing ps → ((i : ℕ) (q z : PassState) → get_elem? qs i ≡ some q → get_elem? zs i ≡ some z → PutsNoMore q z) → Parted zs cs
  parted [] qs zs cs a b c did last before untorn after = absurd (omega arith)
  parted (p ∷ ps) [] zs cs a b c did last before untorn after = absurd (omega arith)
  parted (p ∷ ps) (q ∷ qs) [] cs a b c did last before untorn after = absurd (omega arith)
  parted (p ∷ ps) (q ∷ qs) (z ∷ zs) (d ∷ cs) a b c did last before untorn after =
      works p q z zs d cs (did zero p q d refl refl refl) (before zero p refl) (untorn zero p refl) (after zero q z refl refl)
      (parted ps qs zs cs (omega arith) (omega arith) (omega arith) (λ i. did (suc i)) last (λ i. before (suc i)) (λ i. untorn (suc i)) (λ i. after (suc i)))
  parted (p ∷ x ∷ ps) (q ∷ qs) (z ∷ zs) [] a b c did last before untorn after = absurd (omega arith)
  parted (p ∷ []) (q ∷ x ∷ qs) (z ∷ zs) [] a b c did last before untorn after = absurd (omega arith)
  parted (p ∷ []) (q ∷ []) (z ∷ x ∷ zs) [] a b c did last before untorn after = absurd (omega arith)
  parted (p ∷ []) (q ∷ []) (z ∷ []) [] a b c did last before untorn after = beside p q z (last p q refl refl) (before zero p refl) (untorn zero p refl) (after zero q z refl refl)

  -- all passes
  pub all_parted : (ps qs zs : List PassState) (cs : List (Claimed Outcome)) → RewritesAlone contents m rel fork ps qs zs → length cs ≡ length (workers_in ps)
      → ((w : ℕ) (p q : PassState) (c : Claimed Outcome) → get_elem? (workers_in ps) w ≡ some p → get_elem? (workers_in qs) w ≡ some q → get_elem? cs w ≡ some c → DidClaim p q c)
      → Parted zs cs
  all_parted ps qs zs cs x listed did =
      let several = x.several in
      let of_ps = length_front ps in
      let same = x.beside.counted in
      let end : length cs ≡ length ps - 1 = omega arith in
      parted ps qs zs cs (omega arith) same x.counted
      (λ i p q c at after of.
      let below = length_low cs i c of in
      did i p q c (taken (length ps - 1) i ps (omega arith) ∙ at) (taken (length qs - 1) i qs (omega arith) ∙ after) of)
      (λ p q at after. let w = (x.beside.last p q (ap (λ (n : ℕ). get_elem? ps n) (sym end) ∙ at) (ap (λ (n : ℕ). get_elem? qs n) (sym end) ∙ after)).callers in (w.calls.calls, w.torn)) x.before x.untorn x.after
