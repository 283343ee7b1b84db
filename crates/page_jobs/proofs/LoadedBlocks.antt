-- A worker loads blocks, one after the other.
use Rattle.std.proofs.Common.{◌≡◌, ◌≢◌, ℕ, zero, suc, ◌-◌, ◌<◌, List, [], ◌∷◌, ◌++◌, length, Option, Some, Result, Ok, Err, cond, nat_eq, eq-eqb, ne_eqb, refl, sym, ap, ◌∙◌, subst, inl, inr}
use Rattle.std.specs.Prelude.{OnOk}
use Rattle.std.proofs.lemmas.List.{length-append}
use mathlib.Core.Logic.{dite}
use mathlib.Core.Option.{some, some-injective, some-ne-none}
use native.Mathlib.Decide.{ℕ_discrete}
use lib.ListN.{get_elem?}
use Rattle.block_tag.specs.declared.tag.Tag.{Tag}
use Rattle.block_tag.specs.Names.{packed_tag}
use Rattle.segment_store.specs.Contents.{Pages}
use Rattle.pin_core.specs.declared.view.FailedCalls.{FailedCalls}
use Rattle.frame_table.specs.Seats.{HasResident}
use Rattle.frame_table.proofs.Rising.{rises_on}
use Rattle.io_counts.specs.Found.{FoundMore}
use Rattle.io_counts.proofs.Found.{found_none, found_on}
use Rattle.cleanup_lock.proofs.Unpins.{resident_kept}
use Rattle.buffer_frames.specs.Tokens.{HeldFrame, Tokens, held_at, no_tokens, tokens_less, tokens_of}
use Rattle.buffer_frames.proofs.HeldLists.{held_here}
use Rattle.backend_pass.specs.declared.manager.Manager.{Manager}
use Rattle.backend_pass.specs.declared.pinned.Pinned.{Pinned}
use Rattle.backend_pass.specs.Between.{HasNoTokens}
use Rattle.backend_pass.specs.Managers.{Belongs}
use Rattle.backend_pass.specs.Passes.{KeepsCalls, KeepsDevices, KeepsLocks, KeepsMark, PassState, SamePass}
use Rattle.backend_pass.specs.Reading.{met_read_refused}
use Rattle.page_jobs.specs.declared.ending.JobError.{JobError}
use Rattle.page_jobs.specs.JobBlocks.{listed_tag}
use Rattle.page_jobs.specs.Loads.{AreTaken, HasTaken, LoadsBlock, LoadsOn, MeetsListed, TakesBlock}
use Rattle.page_jobs.specs.Reads.{FindsUnsound, PinsOne}
use Rattle.page_jobs.proofs.JobPlaces.{listed_at}
use Rattle.page_jobs.proofs.Staying.{stays_none, stays_on, stays_read}

-- a frame whose token is the only one of all has one token
less_here : (h : HeldFrame) (t : Tokens) (f : ℕ) → f ≡ h.frame → h.tokens ≢ 1 → tokens_less f (h ∷ t) ≡ record h { tokens = h.tokens - 1 } ∷ t
less_here h t f e more = ap (λ b. cond b (cond (nat_eq h.tokens 1) t (record h { tokens = h.tokens - 1 } ∷ t)) (h ∷ tokens_less f t)) (eq-eqb f h.frame e)
    ∙ ap (λ b. cond b t (record h { tokens = h.tokens - 1 } ∷ t)) (ne_eqb h.tokens 1 more)

less_past : (h : HeldFrame) (t : Tokens) (f : ℕ) → f ≢ h.frame → tokens_less f (h ∷ t) ≡ h ∷ tokens_less f t
less_past h t f n = ap (λ b. cond b (cond (nat_eq h.tokens 1) t (record h { tokens = h.tokens - 1 } ∷ t)) (h ∷ tokens_less f t)) (ne_eqb f h.frame n)

not_none : {A : Type 0} (x : A) (l : List A) → x ∷ l ≡ [] → ⊥
not_none x l e = cc

pub only_token : (t : Tokens) (f : ℕ) (h : HeldFrame) → held_at t f ≡ Some h → tokens_less f t ≡ no_tokens → tokens_of (held_at t f) ≡ 1
only_token [] f h there none = absurd (cc there)
only_token (x ∷ t) f h there none = dite (ℕ_discrete f x.frame)
    (λ e. dite (ℕ_discrete x.tokens 1)
    (λ one. ap tokens_of (held_here x t f e) ∙ one)
    (λ more. absurd (not_none (record x { tokens = x.tokens - 1 }) t (sym (less_here x t f e more) ∙ none))))
    (λ n. absurd (not_none x (tokens_less f t) (sym (less_past x t f n) ∙ none)))

-- a tag of the list is that at its place
pub listed_is : (tags : List Tag) (place : ℕ) (tag : Tag) → get_elem? tags place ≡ some tag → listed_tag tags place ≡ tag
listed_is [] place tag at = absurd (some-ne-none tag (sym at))
listed_is (t ∷ tags) zero tag at = some-injective t tag at
listed_is (t ∷ tags) (suc place) tag at = listed_is tags place tag at

module _ {L G : Type 0} (contents : L → Option Pages) (m : Manager L G) where
  loads_none : (p : PassState) → HasNoTokens contents m p → LoadsOn contents m p p
  loads_none p free = record { stays = stays_none contents m p free.belongs; spent = free.spent; calls = refl }

  loads_on : (p q r : PassState) → LoadsOn contents m p q → LoadsOn contents m q r → LoadsOn contents m p r
  loads_on p q r a b = record { stays = stays_on contents m p q r a.stays b.stays; spent = b.spent; calls = b.calls ∙ a.calls }

  pub free_then : (p q : PassState) → LoadsOn contents m p q → HasNoTokens contents m q
  free_then p q a = record { belongs = a.stays.belongs; spent = a.spent }

  -- what was taken stays so
  taken_still : (tag : Tag) (q r : PassState) → LoadsOn contents m q r → HasTaken contents m tag q → HasTaken contents m tag r
  taken_still tag q r more (inl (f, has)) = inl (f, resident_kept f (packed_tag tag) q.view r.view more.stays.same.keeps.advances.grows.residents has)
  taken_still tag q r more (inr unsound) = inr unsound

  -- the pin is given up, and the pass lists the block
  pub takes_pinned : (tag : Tag) (pinned : Pinned) (p q r : PassState) → PinsOne contents m tag p q pinned → Belongs contents m r → SamePass q r → KeepsMark q r → KeepsLocks q r → KeepsCalls q r → KeepsDevices q r → r.tokens ≡ tokens_less pinned.frame q.tokens
      → (tokens_of (held_at q.tokens pinned.frame) ≡ 1 → HasResident pinned.frame (packed_tag pinned.tag) r.view) → TakesBlock contents m tag p r
  takes_pinned tag pinned p q r one b same mark locks calls devices less lists = record {
    loads = record {
      stays = stays_read contents m p q r one.stays b same mark locks calls;
      spent = less ∙ one.last;
      calls = calls.calls ∙ one.calls.calls;
    };
    took = inl (pinned.frame, subst (λ (t : Tag). HasResident pinned.frame (packed_tag t) r.view) one.tag_is (lists (only_token q.tokens pinned.frame one.token.held one.token.there one.last)));
    met = devices.met ∙ one.met;
  }

  pub takes_unsound : (tag : Tag) (p q : PassState) → FindsUnsound contents m tag p q → TakesBlock contents m tag p q
  takes_unsound tag p q x = record { loads = record { stays = x.stays; spent = x.spent; calls = x.calls }; took = inr x.unsound; met = x.met }

  pub free_block : (tag : Tag) (p q : PassState) (r : Result Unit JobError) → LoadsBlock contents m tag p q r → OnOk r (HasNoTokens contents m q)
  free_block tag p q (Ok done) d = free_then p q d.0.loads
  free_block tag p q (Err e) d = tt

  module _ (tags : List Tag) where
    -- The tags at these places were taken, one after the other, and each was counted
    pub record TakesAll (places : List ℕ) (p q : PassState) : Type 0 where
      pub loads : LoadsOn contents m p q
      pub took : AreTaken contents m tags places q
      pub met : q.view.met ≡ p.view.met
      pub found : FoundMore (length places) p.io q.io

    taken_none : (q : PassState) → AreTaken contents m tags [] q
    taken_none q k i tag at there = absurd (some-ne-none i (sym at))

    taken_later : (places : List ℕ) (q r : PassState) → LoadsOn contents m q r → AreTaken contents m tags places q → AreTaken contents m tags places r
    taken_later places q r more took k i tag at there = taken_still tag q r more (took k i tag at there)

    taken_on : (cs bs : List ℕ) (q : PassState) → AreTaken contents m tags cs q → AreTaken contents m tags bs q → AreTaken contents m tags (cs ++ bs) q
    taken_on [] bs q a b k i tag at there = b k i tag at there
    taken_on (x ∷ cs) bs q a b zero i tag at there = a zero i tag at there
    taken_on (x ∷ cs) bs q a b (suc k) i tag at there = taken_on cs bs q (λ j. a (suc j)) b k i tag at there

    pub takes_none : (p : PassState) → HasNoTokens contents m p → TakesAll [] p p
    takes_none p free = record { loads = loads_none p free; took = taken_none p; met = refl; found = found_none p.io }

    pub takes_on : (cs bs : List ℕ) (p q r : PassState) → TakesAll cs p q → TakesAll bs q r → TakesAll (cs ++ bs) p r
    takes_on cs bs p q r a b = record {
      loads = loads_on p q r a.loads b.loads;
      took = taken_on cs bs r (taken_later cs q r b.loads a.took) b.took;
      met = b.met ∙ a.met;
      found = subst (λ (n : ℕ). FoundMore n p.io r.io) (sym (length-append cs bs)) (found_on (length cs) (length bs) p.io q.io r.io a.found b.found);
    }

    takes_here : (place : ℕ) (q : PassState) → HasTaken contents m (listed_tag tags place) q → AreTaken contents m tags (place ∷ []) q
    takes_here place q took zero i tag at there =
        subst (λ (t : Tag). HasTaken contents m t q) (listed_is tags i tag there) (subst (λ (j : ℕ). HasTaken contents m (listed_tag tags j) q) (some-injective place i at) took)
    takes_here place q took (suc k) i tag at there = absurd (some-ne-none i (sym at))

    pub takes_one : (place : ℕ) (p q : PassState) → LoadsBlock contents m (listed_tag tags place) p q (Ok tt) → TakesAll (place ∷ []) p q
    takes_one place p q d = record { loads = d.0.loads; took = takes_here place q d.0.took; met = d.0.met; found = d.1 }

    -- The tags at some places were taken, and the read of the next one was refused
    pub record StopsAfter (places : List ℕ) (p q : PassState) (e : JobError) : Type 0 where
      pub loads : LoadsOn contents m p q
      pub took : AreTaken contents m tags places q
      pub meets : MeetsListed contents m tags p q e

    pub stops_after : (places : List ℕ) (place : ℕ) (p q r : PassState) (e : JobError) → place < length tags → TakesAll places p q → LoadsBlock contents m (listed_tag tags place) q r (Err e) → StopsAfter places p r e
    stops_after places place p q r e low a s =
        let x = s.refuses in
        let last : LoadsOn contents m q r = record { stays = x.stays; spent = x.spent; calls = x.calls } in
        record {
          loads = loads_on p q r a.loads last;
          took = taken_later places q r last a.took;
          meets = record {
            place = place;
            tag = listed_tag tags place;
            listed = listed_at tags place low;
            meets = record {
              why = s.why;
              fault = s.fault;
              before = x.before;
              since = rises_on p.view q.view x.before.view a.loads.stays.same.keeps.advances x.since;
              refused = x.refused;
              last = x.last;
              met = x.met ∙ ap (λ (n : FailedCalls). met_read_refused s.why n) a.met;
            };
          };
        }

    pub stops_later : (cs bs : List ℕ) (p q r : PassState) (e : JobError) → TakesAll cs p q → StopsAfter bs q r e → StopsAfter (cs ++ bs) p r e
    stops_later cs bs p q r e a s = record {
      loads = loads_on p q r a.loads s.loads;
      took = taken_on cs bs r (taken_later cs q r s.loads a.took) s.took;
      meets = let x = s.meets in let y = x.meets in record {
        place = x.place;
        tag = x.tag;
        listed = x.listed;
        meets = record {
          why = y.why;
          fault = y.fault;
          before = y.before;
          since = rises_on p.view q.view y.before.view a.loads.stays.same.keeps.advances y.since;
          refused = y.refused;
          last = y.last;
          met = y.met ∙ ap (λ (n : FailedCalls). met_read_refused y.why n) a.met;
        };
      };
    }
