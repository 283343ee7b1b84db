-- What was put at the end of a job, and how its workers ended.
use Rattle.std.proofs.Common.{◌≡◌, ℕ, zero, suc, ◌+◌, ◌≤◌, ◌⊎◌, Bool, true, false, List, [], ◌∷◌, ◌++◌, drop, length, Option, Some, None, Result, Ok, Err, refl, sym, ap, ◌∙◌, subst, arith, append_assoc, inl, inr}
use Rattle.std.specs.Prelude.{option_map, IfErr, IfSome, IsSomeAnd, OnOk}
use Rattle.std.proofs.lemmas.List.{append-nil}
use mathlib.Core.Option.{some, some-injective, some-ne-none}
use lib.ListN.{get_elem?}
use Rattle.atomic_table.proofs.Lists.{drop_at}
use Rattle.byte_devices.specs.Bytes.{GainsPrefix, Puts}
use Rattle.page_layout.specs.declared.scan.ScanTotals.{ScanTotals}
use Rattle.page_layout.specs.Scan.{IsWithin}
use Rattle.text_window.specs.Texts.{AreFirstTexts, HasPut, HasPutSome, IsFinished, IsTextBy, Job}
use Rattle.text_window.proofs.Streams.{front_next}
use Rattle.page_jobs.specs.declared.ending.JobError.{JobError}
use Rattle.page_jobs.specs.declared.listing.Lister.{Lister}
use Rattle.page_jobs.specs.declared.working.Worker.{Worker}
use Rattle.page_jobs.specs.Dealt.{AllDone, AnyEnds, EndsAsStopper, EndsFirst, PutsAll, PutsEnd, TotalsAreInRange, job_totals}
use Rattle.page_jobs.specs.Printed.{totals_line}
use Rattle.table_rule.proofs.Opens.{length_low}

-- two texts put one after the other
pub put_twice : (a b : List ℕ) (old mid new : Option (List ℕ)) → mid ≡ option_map (λ bytes. bytes ++ a) old → new ≡ option_map (λ bytes. bytes ++ b) mid → new ≡ option_map (λ bytes. bytes ++ (a ++ b)) old
put_twice a b None mid new first second = second ∙ ap (λ (m : Option (List ℕ)). option_map (λ bytes. bytes ++ b) m) first
put_twice a b (Some bytes) mid new first second =
    second ∙ ap (λ (m : Option (List ℕ)). option_map (λ bytes. bytes ++ b) m) first ∙ ap (λ (l : List ℕ). Some l) (append_assoc bytes a b)

pub put_nothing : (old : Option (List ℕ)) → old ≡ option_map (λ bytes. bytes ++ []) old
put_nothing None = refl
put_nothing (Some bytes) = ap (λ (l : List ℕ). Some l) (sym (append-nil bytes))

abbrev Gains : List ℕ → Option (List ℕ) → Option (List ℕ) → Type 0
Gains text old new = IfSome old (λ bytes. IsSomeAnd new (GainsPrefix text bytes))

-- what was put is a prefix of a text that goes on
gains_whole : (text part rest : List ℕ) (old new : Option (List ℕ)) → text ≡ part ++ rest → new ≡ option_map (λ b. b ++ part) old → Gains text old new
gains_whole text part rest None new split is = tt
gains_whole text part rest (Some b) new split is =
    let g : GainsPrefix text b (b ++ part) = record { prefix = part; rest = rest; whole = split; is = refl } in
    subst (λ (n : Option (List ℕ)). IsSomeAnd n (GainsPrefix text b)) (sym is) g

gains_piece : {E : Type 0} (piece : List ℕ) (old new : Option (List ℕ)) (r : Result Unit E) → Puts piece old new r → Gains piece old new
gains_piece piece old new (Ok done) puts = gains_whole piece piece [] old new (sym (append-nil piece)) puts.ok
gains_piece piece old new (Err e) puts = puts.failed

gains_after : (text part piece rest old new : List ℕ) → text ≡ part ++ (piece ++ rest) → GainsPrefix piece (old ++ part) new → GainsPrefix text old new
gains_after text part piece rest old new split g = record {
  prefix = part ++ g.prefix;
  rest = g.rest ++ rest;
  whole = split
      ∙ ap (λ (l : List ℕ). part ++ (l ++ rest)) g.whole
      ∙ ap (λ (l : List ℕ). part ++ l) (append_assoc g.prefix g.rest rest)
      ∙ sym (append_assoc part g.prefix (g.rest ++ rest));
  is = g.is ∙ append_assoc old part g.prefix;
}

tells_after : (text part piece rest old : List ℕ) (new : Option (List ℕ)) → text ≡ part ++ (piece ++ rest) → IsSomeAnd new (GainsPrefix piece (old ++ part)) → IsSomeAnd new (GainsPrefix text old)
tells_after text part piece rest old None split told = told
tells_after text part piece rest old (Some new) split told = gains_after text part piece rest old new split told

gains_on : (text part piece rest : List ℕ) (old mid new : Option (List ℕ)) → text ≡ part ++ (piece ++ rest) → mid ≡ option_map (λ b. b ++ part) old → Gains piece mid new → Gains text old new
gains_on text part piece rest None mid new split is g = tt
gains_on text part piece rest (Some old) mid new split is g =
    tells_after text part piece rest old new split (subst (λ (m : Option (List ℕ)). Gains piece m new) is g)

gains_both : (part piece : List ℕ) (old new : Option (List ℕ)) → IfSome old (λ bytes. IsSomeAnd new (GainsPrefix piece (bytes ++ part))) → Gains (part ++ piece) old new
gains_both part piece None new told = tt
gains_both part piece (Some old) new told = tells_after (part ++ piece) part piece [] old new (ap (λ (l : List ℕ). part ++ l) (sym (append-nil piece))) told

-- nothing was put after it
none_before : (a b : List ℕ) → [] ≡ a ++ b → a ≡ []
none_before [] b e = refl
none_before (x ∷ a) b e = cc

gains_none : (old new : List ℕ) → GainsPrefix [] old new → new ≡ old
gains_none old new g = g.is ∙ ap (λ (l : List ℕ). old ++ l) (none_before g.prefix g.rest g.whole) ∙ append-nil old

gains_still : (text : List ℕ) (old mid new : Option (List ℕ)) → Gains text old mid → Gains [] mid new → Gains text old new
gains_still text None mid new g still = tt
gains_still text (Some old) None new g still = absurd g
gains_still text (Some old) (Some mid) None g still = absurd still
gains_still text (Some old) (Some mid) (Some new) g still = subst (λ (l : List ℕ). GainsPrefix text old l) (sym (gains_none mid new still)) g

-- a piece was put after the first part of a text, and then it ended
pub stopped_after : {E F : Type 0} (text part piece rest : List ℕ) (old mid new : Option (List ℕ)) (r : Result Unit E) (f : F) → text ≡ part ++ (piece ++ rest) → mid ≡ option_map (λ b. b ++ part) old → Puts piece mid new r → Puts {E = F} text old new (Err f)
stopped_after text part piece rest old mid new r f split is puts = record { ok = tt; failed = gains_on text part piece rest old mid new split is (gains_piece piece mid new r puts) }

-- a prefix of the first part of a text is a prefix of the text
pub stopped_in : {E F : Type 0} (text part rest : List ℕ) (old new : Option (List ℕ)) (e : E) (f : F) → text ≡ part ++ rest → Puts part old new (Err e) → Puts {E = F} text old new (Err f)
stopped_in text part rest old new e f split puts =
    record { ok = tt; failed = gains_on text [] part rest old old new split (put_nothing old) puts.failed }

pub stopped_at : {F : Type 0} (text part rest : List ℕ) (old new : Option (List ℕ)) (f : F) → text ≡ part ++ rest → new ≡ option_map (λ b. b ++ part) old → Puts {E = F} text old new (Err f)
stopped_at text part rest old new f split is = record { ok = tt; failed = gains_whole text part rest old new split is }

-- two pieces were put, the second one maybe in part
puts_after : {E : Type 0} (part piece : List ℕ) (old mid new : Option (List ℕ)) (r : Result Unit E) → mid ≡ option_map (λ b. b ++ part) old → Puts piece mid new r → Puts (part ++ piece) old new r
puts_after part piece old mid new (Ok done) is puts = record { ok = put_twice part piece old mid new is puts.ok; failed = tt }
puts_after part piece old mid new (Err e) is puts = stopped_after (part ++ piece) part piece [] old mid new (Err e) e (ap (λ (l : List ℕ). part ++ l) (sym (append-nil piece))) is puts

-- what holds in any case
on_ok : {E : Type 0} (P : Type 0) (r : Result Unit E) → P → OnOk r P
on_ok P (Ok done) p = p
on_ok P (Err e) p = tt

-- Texts of some of the first chunks were put, or a prefix of them
pub record PutsSome (texts : ℕ → List ℕ → Type 0) (chunks : ℕ) (old new : Option (List ℕ)) (e : JobError) : Type 0 where
  pub many : ℕ
  pub within : many ≤ chunks
  pub text : List ℕ
  pub texts_are : AreFirstTexts texts many text
  pub puts : Puts text old new (Err e)

-- what a window put: where a put failed, maybe only a prefix of the last of the texts
put_some : (T : ℕ → ℕ → List ℕ → Type 0) (job : Job) (place : ℕ) (output : Bool) (mid : Option (List ℕ)) (e : JobError) → HasPutSome T job place output mid → PutsSome (IsTextBy T place) job.chunks job.before mid e
put_some T job place true mid e h =
    let p = h.1 in
    record {
      many = h.0 + 1;
      within = (let w = p.within in omega (arith, w));
      text = p.front ++ p.piece;
      texts_are = front_next (IsTextBy T place) h.0 p.front p.piece p.is p.text;
      puts = record { ok = tt; failed = gains_both p.front p.piece job.before mid p.part };
    }
put_some T job place false mid e h =
    let p = h.2 in
    record {
      many = h.0;
      within = h.1;
      text = p.front;
      texts_are = p.is;
      puts = stopped_at p.front p.front [] job.before mid e (sym (append-nil p.front)) p.bytes_are;
    }

-- and nothing after that
some_still : (texts : ℕ → List ℕ → Type 0) (chunks : ℕ) (old mid new : Option (List ℕ)) (e : JobError) (last : List ℕ) → PutsSome texts chunks old mid e → last ≡ [] → Puts last mid new (Err e)
    → PutsSome texts chunks old new e
some_still texts chunks old mid new e last h none puts = record {
  many = h.many;
  within = h.within;
  text = h.text;
  texts_are = h.texts_are;
  puts = record { ok = tt; failed = gains_still h.text old mid new h.puts.failed (subst (λ (l : List ℕ). Gains l mid new) none puts.failed) };
}

-- no line of totals was put where the workers had failed
none_last : (output : Bool) (worked beside : Result Unit JobError) (totals : ScanTotals) (w : JobError) (last : List ℕ) → worked ≡ Err w
    → (last ≡ []) ⊎ ((output ≡ false) × (worked ≡ Ok tt) × (beside ≡ Ok tt) × (last ≡ totals_line totals)) → last ≡ []
none_last output worked beside totals w last failed (inl none) = none
none_last output worked beside totals w last failed (inr h) = let done = h.1 in cc

-- what a window put at a job's end, where a put had failed, or workers had
pub puts_some : (T : ℕ → ℕ → List ℕ → Type 0) (job : Job) (delivered above : ℕ) (output : Bool) (worked beside : Result Unit JobError) (totals : ScanTotals) (w : JobError) (old mid new : Option (List ℕ)) (e : JobError)
    → (f : IsFinished T job delivered above output mid) → job.before ≡ old → worked ≡ Err w
    → PutsEnd output worked beside totals mid new (Err e) → PutsSome (IsTextBy T f.place) job.chunks old new e
puts_some T job delivered above output worked beside totals w old mid new e f before failed h =
    subst (λ (o : Option (List ℕ)). PutsSome (IsTextBy T f.place) job.chunks o new e) before
    (some_still (IsTextBy T f.place) job.chunks job.before mid new e h.last (put_some T job f.place output mid e f.some) (none_last output worked beside totals w h.last failed h.ending) h.puts)

module _ {N A : Type 0} (T : ℕ → ℕ → List ℕ → Type 0) (job : Job) where
  -- no line of totals was put
  put_most : (place : ℕ) (ws : List (Worker (Lister N A))) (new : Option (List ℕ)) (e : JobError) → PutsSome (IsTextBy T place) job.chunks job.before new e
      → PutsAll (IsTextBy T place) ws job.chunks job.before new (Err e)
  put_most place ws new e h = record {
    many = h.many;
    within = h.within;
    text = h.text;
    texts_are = h.texts_are;
    last = [];
    ending = inl refl;
    puts = stopped_in (h.text ++ []) h.text [] job.before new e e refl h.puts;
    whole = tt;
  }

  -- it was, after the texts of all chunks
  put_line : (place : ℕ) (ws : List (Worker (Lister N A))) (totals : ScanTotals) (last : List ℕ) (mid new : Option (List ℕ)) (end : Result Unit JobError) → HasPut T job place job.chunks mid
      → AllDone ws → totals ≡ job_totals ws → last ≡ totals_line totals
      → Puts last mid new end → PutsAll (IsTextBy T place) ws job.chunks job.before new end
  put_line place ws totals last mid new end h done counted line puts =
      let is : last ≡ totals_line (job_totals ws) = line ∙ ap totals_line counted in
      record {
        many = job.chunks;
        within = omega arith;
        text = h.front;
        texts_are = h.is;
        last = last;
        ending = inr (refl, done, is);
        puts = puts_after h.front last job.before mid new end h.bytes_are puts;
        whole = on_ok ((job.chunks ≡ job.chunks) × (last ≡ totals_line (job_totals ws))) end (refl, is);
      }

  put_at_end : (delivered above : ℕ) (output : Bool) (worked beside : Result Unit JobError) (totals : ScanTotals) (ws : List (Worker (Lister N A))) (mid new : Option (List ℕ)) (end : Result Unit JobError)
      → (f : IsFinished T job delivered above output mid) → PutsEnd output worked beside totals mid new end
      → (worked ≡ Ok tt → (delivered ≡ job.chunks) × AllDone ws × (totals ≡ job_totals ws)) → OnOk end ((output ≡ false) × (worked ≡ Ok tt)) → PutsAll (IsTextBy T f.place) ws job.chunks job.before new end
  put_at_end delivered above output worked beside totals ws mid new (Ok done) f h all ok =
      let a = all ok.1 in
      put_line f.place ws totals h.last mid new (Ok done) (f.whole ok.0 a.0) a.1 a.2 h.whole h.puts
  put_at_end delivered above output worked beside totals ws mid new (Err e) f h all ok = ended h.ending
    where
      ended : (h.last ≡ []) ⊎ ((output ≡ false) × (worked ≡ Ok tt) × (beside ≡ Ok tt) × (h.last ≡ totals_line totals)) → PutsAll (IsTextBy T f.place) ws job.chunks job.before new (Err e)
      ended (inl none) = put_most f.place ws new e (some_still (IsTextBy T f.place) job.chunks job.before mid new e h.last (put_some T job f.place output mid e f.some) none h.puts)
      ended (inr line) =
          let a = all line.1 in
          put_line f.place ws totals h.last mid new (Err e) (f.whole line.0 a.0) a.1 a.2 line.3 h.puts

-- and at any end
pub puts_all : {N A : Type 0} (T : ℕ → ℕ → List ℕ → Type 0) (job : Job) (delivered above : ℕ) (output : Bool) (worked beside : Result Unit JobError) (totals : ScanTotals) (ws : List (Worker (Lister N A))) (old mid new : Option (List ℕ)) (end : Result Unit JobError)
    → (f : IsFinished T job delivered above output mid) → PutsEnd output worked beside totals mid new end
    → job.before ≡ old → (worked ≡ Ok tt → (delivered ≡ job.chunks) × AllDone ws × (totals ≡ job_totals ws)) → OnOk end ((output ≡ false) × (worked ≡ Ok tt)) → PutsAll (IsTextBy T f.place) ws job.chunks old new end
puts_all T job delivered above output worked beside totals ws old mid new end f h before all ok =
    subst (λ (o : Option (List ℕ)). PutsAll (IsTextBy T f.place) ws job.chunks o new end) before (put_at_end T job delivered above output worked beside totals ws mid new end f h all ok)

-- at a job's end nothing was put
pub end_none : (output : Bool) (worked beside : Result Unit JobError) (totals : ScanTotals) (old : Option (List ℕ)) (e : JobError) → PutsEnd output worked beside totals old old (Err e)
end_none output worked beside totals old e = record { last = []; ending = inl refl; puts = stopped_at [] [] [] old old e refl (put_nothing old); whole = tt }

-- the first of the workers from one on that failed is the first of all, where those before it are done
pub first_here : {K : Type 0} (ws : List (Worker K)) (i : ℕ) (w : Worker K) (e : JobError) → get_elem? ws i ≡ some w → w.end ≡ Err e → EndsFirst e (drop i ws)
first_here ws i w e at is = subst (EndsFirst e) (sym (drop_at ws i w at)) (inl is)

pub first_next : {K : Type 0} (ws : List (Worker K)) (i : ℕ) (w : Worker K) → get_elem? ws i ≡ some w → w.end ≡ Ok tt → ((e : JobError) → EndsFirst e (drop i ws) → EndsFirst e ws) → (e : JobError) → EndsFirst e (drop (i + 1) ws) → EndsFirst e ws
first_next ws i w at ok f e later =
    let n : i + 1 ≡ suc i = omega arith in
    f e (subst (EndsFirst e) (sym (drop_at ws i w at)) (inr (ok, subst (λ (k : ℕ). EndsFirst e (drop k ws)) n later)))

pub any_first : {K : Type 0} (e : JobError) (ws : List (Worker K)) → EndsFirst e ws → AnyEnds e ws
any_first e [] ends = absurd ends
any_first e (w ∷ ws) (inl is) = inl is
any_first e (w ∷ ws) (inr later) = inr (any_first e ws later.1)

pub any_at : {K : Type 0} (ws : List (Worker K)) (i : ℕ) (w : Worker K) (e : JobError) → get_elem? ws i ≡ some w → w.end ≡ Err e → AnyEnds e ws
any_at [] i w e at is = absurd (some-ne-none w (sym at))
any_at {K = K} (x ∷ ws) zero w e at is = inl (subst (λ (y : Worker K). y.end ≡ Err e) (sym (some-injective x w at)) is)
any_at (x ∷ ws) (suc i) w e at is = inr (any_at ws i w e at is)

-- how a worker ended is how one of them did
pub any_end : {K : Type 0} (ws : List (Worker K)) (i : ℕ) (w : Worker K) → get_elem? ws i ≡ some w → IfErr w.end (λ e. AnyEnds e ws)
any_end ws i w at = from w.end refl
  where
    from : (r : Result Unit JobError) → w.end ≡ r → IfErr r (λ e. AnyEnds e ws)
    from (Ok done) is = tt
    from (Err e) is = any_at ws i w e at is

-- the worker that stopped the job ended so
pub stopper_there : {K : Type 0} (ws : List (Worker K)) (stopped_by : Option ℕ) (i : ℕ) (a : Worker K) → stopped_by ≡ Some i → get_elem? ws i ≡ some a → EndsAsStopper stopped_by ws a.end
stopper_there {K = K} ws stopped_by i a is there n w e by at failed =
    let both : Some i ≡ Some n = sym is ∙ by in
    let same : i ≡ n = cc in
    ap (λ (x : Worker K). x.end) (some-injective a w (sym there ∙ ap (λ (k : ℕ). get_elem? ws k) same ∙ at)) ∙ failed

-- there is none of that number
pub stopper_none : {K : Type 0} (ws : List (Worker K)) (stopped_by : Option ℕ) (i : ℕ) (end : Result Unit JobError) → stopped_by ≡ Some i → length ws ≤ i → EndsAsStopper stopped_by ws end
stopper_none ws stopped_by i end is past n w e by at failed =
    let both : Some i ≡ Some n = sym is ∙ by in
    let same : i ≡ n = cc in
    let below = length_low ws n w at in
    absurd (omega (arith, same, below, past))

-- where the rest is done all are, of any workers
pub done_next : {K : Type 0} (ws : List (Worker K)) (i : ℕ) (w : Worker K) → get_elem? ws i ≡ some w → w.end ≡ Ok tt → (AllDone (drop i ws) → AllDone ws) → AllDone (drop (i + 1) ws) → AllDone ws
done_next ws i w at ok f rest = let n : suc i ≡ i + 1 = omega arith in f (subst AllDone (sym (drop_at ws i w at)) (ok, subst (λ (k : ℕ). AllDone (drop k ws)) (sym n) rest))

pub counted_at : {N A : Type 0} (ws : List (Worker (Lister N A))) (i : ℕ) (w : Worker (Lister N A)) → TotalsAreInRange ws → get_elem? ws i ≡ some w → IsWithin w.task.printed.totals w.task.printed.totals.blocks
counted_at [] i w c at = absurd (some-ne-none w (sym at))
counted_at {N = N} {A = A} (x ∷ ws) zero w c at = subst (λ (y : Worker (Lister N A)). IsWithin y.task.printed.totals y.task.printed.totals.blocks) (some-injective x w at) c.0
counted_at (x ∷ ws) (suc i) w c at = counted_at ws i w c.1 at
