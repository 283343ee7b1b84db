-- A rewrite that ended as the log was full left a block without a record.
use Rattle.std.proofs.Common.{◌≡◌, ℕ, zero, suc, ◌+◌, ◌*◌, ◌-◌, ◌<◌, ◌≤◌, Bool, true, false, List, [], ◌∷◌, ◌++◌, length, Option, Some, refl, sym, ap, ap₂, ◌∙◌, subst, inl, inr, arith}
use Rattle.std.proofs.lemmas.List.{append_cancel_left, length-append}
use mathlib.Core.Option.{some, some-injective, some-ne-none}
use lib.ListN.{get_elem?}
use Rattle.block_tag.specs.declared.tag.Fork.{Fork}
use Rattle.segment_store.specs.Contents.{Pages}
use Rattle.pin_core.specs.declared.view.Call.{Call}
use Rattle.pin_core.specs.declared.view.Call.TheVariants.{Read}
use Rattle.pin_core.specs.declared.view.View.{View}
use Rattle.pin_core.specs.State.{Page}
use Rattle.grid.specs.Shape.{total}
use Rattle.history_core.proofs.Images.{images_alone}
use Rattle.history_core.proofs.Logs.{images_end}
use Rattle.history_core.specs.Log.{record_size, write_weight, writes_in}
use Rattle.history_core.specs.State.{last_position}
use Rattle.grid.proofs.Sums.{total-both}
use Rattle.table_rule.specs.Shows.{Devices}
use Rattle.frame_table.specs.Seats.{base_of}
use Rattle.wal_flush.specs.declared.inserts.InsertError.{InsertError}
use Rattle.wal_flush.specs.declared.inserts.InsertError.TheVariants as put
use Rattle.buffer_frames.specs.Puts.{RefusalShows}
use Rattle.backend_pass.specs.declared.errors.FlushError.{FlushError}
use Rattle.backend_pass.specs.declared.errors.FlushError.TheVariants as flush
use Rattle.backend_pass.specs.declared.errors.ReadError.{ReadError}
use Rattle.backend_pass.specs.declared.errors.ReadError.TheVariants as read
use Rattle.backend_pass.specs.declared.manager.Manager.{Manager}
use Rattle.backend_pass.specs.Closing.{ClosesAll, calls_in_order, calls_of_passes}
use Rattle.backend_pass.specs.Managers.{first_in, is_first, others_in}
use Rattle.backend_pass.specs.Passes.{PassState}
use Rattle.backend_pass.proofs.Joining.{first_here, first_past, others_here, others_past}
use Rattle.page_jobs.specs.declared.ending.JobError.{JobError}
use Rattle.page_jobs.specs.declared.ending.JobError.TheVariants.{LogFull}
use Rattle.page_jobs.specs.Beside.{fault_of_flush}
use Rattle.page_jobs.specs.Jobs.{workers_in}
use Rattle.page_jobs.specs.Chunks.{Claimed, items_in_all}
use Rattle.page_jobs.specs.Parts.{blocks_in}
use Rattle.page_jobs.specs.Reads.{fault_of_refusal}
use Rattle.page_jobs.specs.Rewrites.{Outcome, Rule, unsound, kept, refused, changed, calls_for, rule_of}
use Rattle.page_jobs.specs.RewriteCloses.{ClosesFull, RewritesAndEnds}
use Rattle.page_jobs.specs.RewriteJobs.{EndsRewrite, FailsFirst}
use Rattle.page_jobs.specs.Rewriting.{PutIsRefused, RewritesBlocks, fault_of_put}
use Rattle.page_jobs.proofs.Measures.{outcomes_few}
use Rattle.page_jobs.proofs.RewriteCounts.{outcome_weight, writes_are}
use Rattle.page_jobs.proofs.RewriteCourse.{Parted, all_parted}
use Rattle.page_jobs.proofs.RewriteDevices.{claimed_weigh}
use Rattle.page_jobs.proofs.RewriteOrder.{all_calls}
use Rattle.table_rule.proofs.Opens.{length_low, there_at}
use Rattle.backend_pass.proofs.Standing.{length_front, taken}

-- an outcome makes one write at most
weight_few : (o : Outcome) → outcome_weight o ≤ 1
weight_few (unsound b) = omega arith
weight_few (kept b i p n) = omega arith
weight_few (refused b i p n) = omega arith
weight_few (changed b i p n m) = omega arith

weights_few : (os : List Outcome) → total outcome_weight os ≤ length os
unfolding total
weights_few [] = omega arith
weights_few (o ∷ os) = let x = weight_few o in let y = weights_few os in omega arith

-- the weight of the second of calls, and those after it
abbrev second_weight : List Call → ℕ
second_weight (c ∷ d ∷ calls) = write_weight d
second_weight _ = 0

abbrev after_second : List Call → List Call
after_second (c ∷ d ∷ calls) = calls
after_second _ = []

-- where the last call is a read one of the outcomes makes no write
weights_less : (r : Rule) (os : List Outcome) (others : List Call) (i t n : ℕ) (p : Page) → calls_for r os ≡ others ++ Read i t p n ∷ [] → total outcome_weight os < length os
unfolding total
weights_less r [] others i t n p e = absurd (let l = length-append others (Read i t p n ∷ []) in let k = ap (λ (calls : List Call). length calls) e in omega arith)
weights_less r (unsound b ∷ os) others i t n p e = let y = weights_few os in omega arith
weights_less r (kept b j q m ∷ os) others i t n p e = let y = weights_few os in omega arith
weights_less r (refused b j q m ∷ os) others i t n p e = let y = weights_few os in omega arith
weights_less r (changed b j q m k ∷ os) [] i t n p e = absurd (let l = ap (λ (calls : List Call). length calls) e in omega arith)
weights_less r (changed b j q m k ∷ os) (c ∷ []) i t n p e = absurd (let w : 1 ≡ 0 = ap second_weight e in omega arith)
weights_less r (changed b j q m k ∷ os) (c ∷ d ∷ others) i t n p e = let y = weights_less r os others i t n p (ap after_second e) in omega arith

-- so it is with those of several passes, where it is with those of one
all_less : (cs : List (Claimed Outcome)) (k : ℕ) (c : Claimed Outcome) → get_elem? cs k ≡ some c → total outcome_weight c.items < length c.items → total outcome_weight (items_in_all cs) < length (items_in_all cs)
all_less [] k c at less = absurd (some-ne-none c (sym at))
all_less (d ∷ cs) zero c at less =
    let here : total outcome_weight d.items < length d.items = subst (λ (e : Claimed Outcome). total outcome_weight e.items < length e.items) (sym (some-injective d c at)) less in
    let both = total-both outcome_weight d.items (items_in_all cs) in
    let long = length-append d.items (items_in_all cs) in
    let rest = weights_few (items_in_all cs) in
    omega (arith, here, both, long, rest)
all_less (d ∷ cs) (suc k) c at less =
    let here = weights_few d.items in
    let both = total-both outcome_weight d.items (items_in_all cs) in
    let long = length-append d.items (items_in_all cs) in
    let rest = all_less cs k c at less in
    omega (arith, here, both, long, rest)

-- the first pass's calls come first, and the writes are as many in any order
writes_next : (b : Bool) (z : PassState) (zs : List PassState) → is_first z ≡ b → writes_in (calls_in_order zs) ≡ writes_in (calls_of_passes zs) → writes_in (calls_in_order (z ∷ zs)) ≡ writes_in (calls_of_passes (z ∷ zs))
writes_next true z zs is rest = ap₂ (λ (v : View) (l : List PassState). writes_in (v.calls ++ calls_of_passes l)) (first_here z zs is) (others_here z zs is)
writes_next false z zs later rest =
    let e : writes_in (calls_in_order (z ∷ zs)) ≡ writes_in ((first_in zs).calls ++ (z.view.calls ++ calls_of_passes (others_in zs))) = ap₂ (λ (v : View) (l : List PassState). writes_in (v.calls ++ calls_of_passes l)) (first_past z zs later) (others_past z zs later) in
    let a = total-both write_weight (first_in zs).calls (z.view.calls ++ calls_of_passes (others_in zs)) in
    let b = total-both write_weight z.view.calls (calls_of_passes (others_in zs)) in
    let c = total-both write_weight (first_in zs).calls (calls_of_passes (others_in zs)) in
    let d = total-both write_weight z.view.calls (calls_of_passes zs) in
    omega (arith, e, a, b, c, d, rest)

writes_ordered : (zs : List PassState) → writes_in (calls_in_order zs) ≡ writes_in (calls_of_passes zs)
writes_ordered [] = refl
writes_ordered (z ∷ zs) = writes_next (is_first z) z zs refl (writes_ordered zs)

-- no refusal of a read or a write is for a full log, and one of a put shows it
never_read : (why : ReadError) (end : ℕ) → fault_of_refusal why ≡ Some (LogFull end) → ⊥
never_read (read.PastEnd block blocks) end e = absurd (cc e)
never_read read.PinsFull end e = absurd (cc e)
never_read (read.NoUnpinned frames) end e = absurd (cc e)
never_read (read.ReadFault tag) end e = absurd (cc e)
never_read (read.WriteFault tag) end e = absurd (cc e)
never_read read.LogFault end e = absurd (cc e)
never_read (read.LogDown at) end e = absurd (cc e)
never_read (read.LogShort lsn last) end e = absurd (cc e)
never_read (read.Unsound tag) end e = absurd (cc e)

never_flush : (why : FlushError) (end : ℕ) → fault_of_flush why ≡ LogFull end → ⊥
never_flush (flush.WriteFault tag) end e = absurd (cc e)
never_flush flush.LogFault end e = absurd (cc e)
never_flush (flush.LogDown at) end e = absurd (cc e)
never_flush (flush.LogShort lsn last) end e = absurd (cc e)

abbrev full_end : JobError → ℕ
full_end (LogFull end) = end
full_end _ = 0

shows_full : (why : InsertError) (end : ℕ) (v : View) → fault_of_put why ≡ LogFull end → RefusalShows why v → (last_position < end + record_size) × (end ≤ v.end_seen)
shows_full (put.LogFull last) end v e shows = subst (λ (n : ℕ). (last_position < n + record_size) × (n ≤ v.end_seen)) (ap full_end e) shows
shows_full (put.LogDown at) end v e shows = absurd (cc e)
shows_full put.LogFault end v e shows = absurd (cc e)

-- from what was seen to the end at the close, which is one record after another
below_all : (end seen now last base start entries writes outcomes blocks : ℕ) → end ≤ seen → seen ≤ now → now ≤ last → last ≡ base + 8224 * entries → base ≡ start → writes ≡ entries → writes < outcomes → outcomes ≤ blocks → end + 8224 ≤ start + 8224 * blocks
below_all end seen now last base start entries writes outcomes blocks a b c d e f g h = omega (arith, a, b, c, d, e, f, g, h)

module _ {L G : Type 0} (contents : L → Option Pages) (m : Manager L G) (rel : ℕ) (fork : Fork) where
  -- The pass at this place had its put refused
  record RefusedAt (ps qs : List PassState) (e : JobError) : Type 0 where
    place : ℕ
    before : PassState
    after : PassState
    was : get_elem? ps place ≡ some before
    is : get_elem? qs place ≡ some after
    unput : PutIsRefused contents m rel fork before after e

  refused_at : (ps qs : List PassState) (end : ℕ) → FailsFirst contents m rel fork ps qs (LogFull end) → RefusedAt ps qs (LogFull end)
  refused_at [] [] end fails = absurd fails
  refused_at [] (q ∷ qs) end fails = absurd fails
  refused_at (p ∷ ps) [] end fails = absurd fails
  refused_at (p ∷ ps) (q ∷ qs) end (inl (inl meets)) = absurd (never_read meets.why end meets.fault)
  refused_at (p ∷ ps) (q ∷ qs) end (inl (inr unput)) = record { place = zero; before = p; after = q; was = refl; is = refl; unput = unput }
  refused_at (p ∷ ps) (q ∷ qs) end (inr later) = let x = refused_at ps qs end later.1 in record { place = suc x.place; before = x.before; after = x.after; was = x.was; is = x.is; unput = x.unput }

  refused_in : (ps qs : List PassState) (end : ℕ) → EndsRewrite contents m rel fork ps qs (LogFull end) → RefusedAt (workers_in ps) (workers_in qs) (LogFull end)
  refused_in ps qs end (inl memory) = absurd (cc memory)
  refused_in ps qs end (inr (inl fails)) = refused_at (workers_in ps) (workers_in qs) end fails
  refused_in ps qs end (inr (inr last)) = let x = last.1.refused in absurd (never_flush x.why end x.fault)

  -- that pass's last call is a read
  last_read : (bs : List ℕ) (os : List Outcome) (p q : PassState) (e : JobError) → RewritesBlocks contents m rel fork bs os p q → PutIsRefused contents m rel fork p q e → total outcome_weight os < length os
  last_read bs os p q e did unput =
      let r = unput.fails.reads in
      weights_less (rule_of rel fork) os r.others _ _ r.place _ (append_cancel_left p.view.calls (calls_for (rule_of rel fork) os) _ (sym did.calls ∙ r.calls))

module _ {L G : Type 0} (d : Devices L G) (m : Manager L G) (rel : ℕ) (fork : Fork) (ps qs zs : List PassState) (end : ℕ) (lanes : List L) (log : G) (x : RewritesAndEnds d.contents m rel fork ps qs zs (LogFull end)) (c : ClosesAll d m.table.table.shared.key zs lanes log) where
  abbrev claimed : List (Claimed Outcome)
  claimed = x.alone.parts.claimed

  t : Parted d.contents m rel fork ⊥ zs claimed
  t = all_parted d.contents m rel fork ⊥ ps qs zs claimed x.alone x.alone.parts.listed (λ w p q e at after of. ((x.alone.parts.each w p q e at after of).blocks, λ no. absurd no))

  refusal : RefusedAt d.contents m rel fork (workers_in ps) (workers_in qs) (LogFull end)
  refusal = refused_in d.contents m rel fork ps qs end x.ends

  writes_all : writes_in (calls_in_order zs) ≡ total outcome_weight (items_in_all claimed)
  writes_all = writes_ordered zs ∙ ap writes_in (all_calls (rule_of rel fork) zs t.parts t.have) ∙ writes_are (rule_of rel fork) t.parts t.reads ∙ ap (total outcome_weight) t.dones

  less_than_all : total outcome_weight (items_in_all claimed) < length (items_in_all claimed)
  less_than_all =
      let r = refusal in
      let below = length_low (workers_in ps) r.place r.before r.was in
      let listed = x.alone.parts.listed in
      let done = there_at claimed r.place (omega (arith, below, listed)) in
      all_less claimed r.place done.0 done.1 (last_read d.contents m rel fork _ done.0.items r.before r.after (LogFull end) (x.alone.parts.each r.place r.before r.after done.0 r.was r.is done.1).blocks r.unput)

  all_below : length (items_in_all claimed) ≤ blocks_in m rel fork
  all_below = outcomes_few (blocks_in m rel fork) (items_in_all claimed) (claimed_weigh d.contents m rel fork (workers_in ps) (workers_in qs) x.alone.parts)

  full_below : (last_position < end + record_size) × (end + record_size ≤ base_of m.table + record_size * blocks_in m rel fork)
  full_below =
      let r = refusal in
      let seen = shows_full r.unput.why end r.after.view r.unput.fault r.unput.fails.shows in
      let low = length_low (workers_in qs) r.place r.after r.is in
      let front = length_front qs in
      let at : get_elem? qs r.place ≡ some r.after = sym (taken (length qs - 1) r.place qs (omega (arith, low, front))) ∙ r.is in
      let within = length_low qs r.place r.after at in
      let same = x.alone.counted in
      let z = there_at zs r.place (omega (arith, within, same)) in (
        seen.0,
        below_all end r.after.view.end_seen z.0.view.end_seen c.state.end c.state.log.base (base_of m.table) (length c.state.log.entries) (writes_in (calls_in_order zs)) (length (items_in_all claimed)) (blocks_in m rel fork)
            seen.1 (x.rises r.place r.after z.0 at z.1).end_seen (c.each r.place z.0 z.1).seen (c.laws.invariant.ends ∙ images_end c.state.log.base c.state.log.entries c.laws.invariant.log.chained (images_alone c.state c.laws c.opened.ranges)) c.opened.base c.history.counted (let w = writes_all in let l = less_than_all in omega (arith, w, l)) all_below,
      )

pub closes_full : {L G : Type 0} (d : Devices L G) (m : Manager L G) → ClosesFull d m
closes_full d m rel fork ps qs zs end lanes log x c = full_below d m rel fork ps qs zs end lanes log x c
