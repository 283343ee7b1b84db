-- Why a recovery ended, by the counts of its lanes and of its source.
use Rattle.std.proofs.Common.{◌≡◌, ◌≢◌, ℕ, zero, suc, ◌+◌, ◌<◌, ◌^◌, ◌⊎◌, List, [], length, map, Option, Some, None, Result, Ok, Err, refl, ap, ◌∙◌, subst, ⊎_elim, arith}
use Rattle.std.specs.Prelude.{IfSome, IsErrOf, IsSome, IsSomeAnd, get_or, sum_by}
use Rattle.std.proofs.lemmas.List.{length-map}
use Rattle.std.proofs.lemmas.List.Sums.{get_or-le-sum_by}
use Rattle.byte_devices.specs.Faults.{Added, Rose}
use Rattle.byte_devices.specs.MemoryLog.{StoredLog}
use Rattle.segment_store.specs.Contents.{Marks, Pages}
use Rattle.segment_store.specs.Logs.{IsOpenedSource, Logs}
use Rattle.segment_store.specs.Paths.{Paths}
use Rattle.block_tag.specs.declared.catalogue.RelEntry.{RelEntry}
use Rattle.log_recovery.specs.declared.error.RecoverError.{RecoverError}
use Rattle.log_recovery.specs.declared.error.RecoverError.TheVariants as recovery
use Rattle.log_recovery.specs.declared.recovering.Redone.{Redone}
use Rattle.log_recovery.specs.Records.{HasBadHead}
use Rattle.log_recovery.specs.Redo.{AnyRose}
use Rattle.command_line.specs.declared.request.RecoverRequest.{RecoverRequest}
use Rattle.relation_commands.specs.Answers.{EndsCommand, HasGoodHead, HasLog, HasPositionsAt, PutsLogOf, counts}
use Rattle.relation_commands.specs.RecoverCommand.{EndsRedo}
use Rattle.relation_commands.specs.RecoverTexts.{recover_text}
use Rattle.command_line.specs.Request.{Asked, LoggedAsked, listing, recover_asked, recover_options, recovering, rewriting, sampling}
use Rattle.relation_commands.specs.Crowded.{IsCrowded}
use Rattle.relation_commands.proofs.Counting.{added_none, added_some, rose_after, rose_from_none, sum_of_map, sum_same}
use Rattle.relation_commands.proofs.Putting.{puts_nothing}
use Rattle.relation_commands.proofs.RecoverGiven.{recover_result}

-- the one backend of a recovery is never crowded
never_crowded : (lanes seg_blocks : ℕ) → IsCrowded (recover_options lanes seg_blocks) → ⊥
never_crowded lanes seg_blocks crowded = omega arith

rose_some : (before now : ℕ) → Rose before now → 0 < now
rose_some before now rose = rose_from_none now (rose_after 0 before now (omega arith) rose)

-- what was added to a count that didn't rise is nothing
added_still : (old more new : ℕ) → Added old more new → (Rose old new → ⊥) → more ≡ 0
added_still old zero new added still = refl
added_still old (suc more) new added still = absurd (still (added_some old (suc more) new added (omega arith)))

counts_same : (a b c d a' b' c' d' : ℕ) → a' ≡ a → b' ≡ b → c' ≡ c → d' ≡ d → counts a' b' c' d' ≡ counts a b c d
counts_same a b c d a' b' c' d' reads writes logs outs =
    ap (λ (n : ℕ). counts n b' c' d') reads ∙ ap (λ (n : ℕ). counts a n c' d') writes
    ∙ ap (λ (n : ℕ). counts a b n d') logs ∙ ap (λ (n : ℕ). counts a b c n) outs

module _ {L : Type 0} (faults : L → ℕ) where
  -- where the count of one of the lanes rose their sum isn't 0
  any_rose_sum : (ls ms : List L) → length ms ≡ length ls → AnyRose (map faults ls) (map faults ms) → 0 < sum_by faults ms
  any_rose_sum ls ms counted any =
      let q = any.0 in
      let low = any.1 in
      let was = length-map ls faults in
      let now = length-map ms faults in
      let below : q < length (map faults ms) = omega (arith, low, was, now, counted) in
      let there = get_or-le-sum_by (λ (n : ℕ). n) (map faults ms) q 0 below in
      let some = rose_some (get_or (map faults ls) q 0) (get_or (map faults ms) q 0) any.2 in
      let sum = sum_of_map faults ms in
      omega (arith, there, some, sum)

  -- then the host's count rises
  pub host_rose : (ls ms : List L) (before now : ℕ) → length ms ≡ length ls → Added before (sum_by faults ms) now → AnyRose (map faults ls) (map faults ms) → Rose before now
  host_rose ls ms before now counted added any = added_some before (sum_by faults ms) now added (any_rose_sum ls ms counted any)

some_is : {A : Type 0} (P : A → Type 0) (o : Option A) → IsSomeAnd o P → IsSome o
some_is P None is = absurd is
some_is P (Some x) is = refl

if_some : {A : Type 0} (P : A → Type 0) (o : Option A) → IsSomeAnd o P → IfSome o P
if_some P None is = tt
if_some P (Some x) is = is

every : {A : Type 0} (o : Option A) (P : A → Type 0) → ((x : A) → P x) → IfSome o P
every None P all = tt
every (Some x) P all = all x

-- what holds of the bytes left of a source that was just opened holds of the file at its path
file_has : (P : List ℕ → Type 0) (o : Option StoredLog) (left : Option (List ℕ)) → IsSomeAnd o (λ file. left ≡ Some file.bytes) → IfSome left P → IsSomeAnd o (λ file. P file.bytes)
file_has P None left there holds = there
file_has P (Some file) left there holds = subst (λ (b : Option (List ℕ)). IfSome b P) there holds

log_has : (P : List ℕ → Type 0) (path : List ℕ) (logs : Option Logs) (left : Option (List ℕ)) → IfSome logs (λ logs. IsSomeAnd (logs path) (λ file. left ≡ Some file.bytes)) → IfSome left P
    → IfSome logs (λ logs. IsSomeAnd (logs path) (λ file. P file.bytes))
log_has P path None left there holds = tt
log_has P path (Some logs) left there holds = file_has P (logs path) left there holds

module _ (r : LoggedAsked) where
  log_there : (logs : Option Logs) (left : Option (List ℕ)) → IfSome logs (λ logs. IsSomeAnd (logs r.log) (λ file. left ≡ Some file.bytes)) → HasLog (recovering r) logs
  log_there None left there = tt
  log_there (Some logs) left there = some_is (λ file. left ≡ Some file.bytes) (logs r.log) there

  head_good : (logs : Option Logs) → IfSome logs (λ logs. IsSomeAnd (logs r.log) (λ file. ¬ HasBadHead file.bytes)) → HasGoodHead (recovering r) logs
  head_good None good = tt
  head_good (Some logs) good = if_some (λ file. ¬ HasBadHead file.bytes) (logs r.log) good

  positions : (known : Option Paths) → HasPositionsAt (recovering r) known
  positions known = every known (λ _. Unit {0}) (λ _. tt)

err_or : RecoverError → Result Redone RecoverError → RecoverError
err_or d (Ok redone) = d
err_or d (Err e) = e

err_is : (d e : RecoverError) → IsErrOf {T = Redone} (Err d) e → d ≡ e
unfolding err_or
err_is d e is = ap (err_or d) is

module _ {L S : Type 0} (contents : L → Option Pages) (failed room : L → Marks) (reads writes : L → ℕ) (left : S → Option (List ℕ)) (faults : S → ℕ)
    (relations : List RelEntry) (lanes lanes_now : List L) (source source_now : S) (q : RecoverRequest) (known : Option Paths) (logs : Option Logs)
    (r₀ w₀ l₀ r₁ w₁ l₁ : ℕ) where
  abbrev as_asked : LoggedAsked
  as_asked = recover_asked q

  module _ (opened : IsOpenedSource left faults logs as_asked.log source) (there : IfSome known (λ paths. paths as_asked.path ≢ []))
      (none_read : sum_by reads lanes ≡ 0) (none_written : sum_by writes lanes ≡ 0) (r_fits : r₀ < 2 ^ 64) (w_fits : w₀ < 2 ^ 64)
      (r_added : Added r₀ (sum_by reads lanes_now + faults source_now) r₁) (w_added : Added w₀ (sum_by writes lanes_now) w₁) (l_same : l₁ ≡ l₀) where
    abbrev Ends : Result Redone RecoverError → Type 0
    Ends result = EndsCommand (recovering as_asked) known logs (counts r₀ w₀ l₀ 0) (counts r₁ w₁ l₁ 0) (recover_result q.log result)

    is_roomy : IsCrowded as_asked.options → ⊥
    is_roomy = never_crowded q.lanes q.seg_blocks

    -- the source's count didn't rise, so where its head is bad that was the end
    good_unless : (result : Result Redone RecoverError) → EndsRedo contents failed room reads writes left faults relations lanes lanes_now source source_now result
        → faults source_now ≡ 0 → (IsErrOf result recovery.BadLog → ⊥) → (IsErrOf result recovery.Memory → ⊥) → HasGoodHead (recovering as_asked) logs
    good_unless result ends still not_bad not_short = head_good as_asked logs
        (log_has (λ bytes. ¬ HasBadHead bytes) as_asked.log logs (left source) opened.there (by_left (left source) ends.bad_head))
      where
        unrisen : Rose (faults source) (faults source_now) → ⊥
        unrisen rose = let some = rose_some (faults source) (faults source_now) rose in omega arith

        by_left : (b : Option (List ℕ)) → IfSome b (λ bytes. HasBadHead bytes → ¬ Rose (faults source) (faults source_now) → IsErrOf result recovery.BadLog ⊎ IsErrOf result recovery.Memory)
            → IfSome b (λ bytes. ¬ HasBadHead bytes)
        by_left None bad = tt
        by_left (Some bytes) bad = λ head. ⊎_elim not_bad not_short (bad head unrisen)

    ends_done : (redone : Redone) → EndsRedo contents failed room reads writes left faults relations lanes lanes_now source source_now (Ok redone) → Ends (Ok redone)
    ends_done redone ends =
        let quiet = ends.quiet in
        let still : faults source_now ≡ 0 = quiet.0 ∙ opened.faultless in
        let read = sum_same reads lanes lanes_now quiet.1 ∙ none_read in
        let written = sum_same writes lanes lanes_now quiet.2 ∙ none_written in
        record {
          roomy = is_roomy;
          there = there;
          positions = positions as_asked known;
          logged = (log_there as_asked logs (left source) opened.there, good_unless (Ok redone) ends still (λ (no : Ok redone ≡ Err recovery.BadLog). cc) (λ (no : Ok redone ≡ Err recovery.Memory). cc));
          quiet = counts_same r₀ w₀ l₀ 0 r₁ w₁ l₁ 0
              (added_none r₀ (sum_by reads lanes_now + faults source_now) r₁ r_added r_fits (omega (arith, read, still)))
              (added_none w₀ (sum_by writes lanes_now) w₁ w_added w_fits written) l_same refl;
        }

    ends_refused : (e : RecoverError) → EndsRedo contents failed room reads writes left faults relations lanes lanes_now source source_now (Err e) → Ends (Err e)
    ends_refused recovery.BadLog ends =
        let bad = ends.bad refl in
        let read : sum_by reads lanes_now ≡ 0 = ap (λ (ls : List L). sum_by reads ls) bad.0 ∙ none_read in
        let still : faults source_now ≡ 0 = bad.1 ∙ opened.faultless in (
          refl,
          there,
          log_has HasBadHead as_asked.log logs (left source) opened.there bad.2,
          is_roomy,
          added_none r₀ (sum_by reads lanes_now + faults source_now) r₁ r_added r_fits (omega (arith, read, still)),
        )
    ends_refused recovery.ReadFault ends =
        let more : 0 < sum_by reads lanes_now + faults source_now = ⊎_elim
        (λ (rose : Rose (faults source) (faults source_now)). let some = rose_some (faults source) (faults source_now) rose in omega (arith, some))
        (λ (any : AnyRose (map reads lanes) (map reads lanes_now)). let some = any_rose_sum reads lanes lanes_now ends.count any in omega (arith, some))
        (ends.read_fault refl) in
        (added_some r₀ (sum_by reads lanes_now + faults source_now) r₁ r_added more, is_roomy, refl)
    ends_refused recovery.WriteFault ends = (
      added_some w₀ (sum_by writes lanes_now) w₁ w_added (any_rose_sum writes lanes lanes_now ends.count (ends.write_fault refl)),
      there,
      is_roomy,
      refl,
      positions as_asked known,
      log_there as_asked logs (left source) opened.there,
      (λ still. let none = added_still r₀ (sum_by reads lanes_now + faults source_now) r₁ r_added still in
          good_unless (Err recovery.WriteFault) ends (omega (arith, none)) (λ no. let is = err_is recovery.WriteFault recovery.BadLog no in cc) (λ no. let is = err_is recovery.WriteFault recovery.Memory no in cc)),
    )
    ends_refused recovery.Memory ends = tt

    pub recovery_ends : (result : Result Redone RecoverError) → EndsRedo contents failed room reads writes left faults relations lanes lanes_now source source_now result → Ends result
    recovery_ends (Ok redone) ends = ends_done redone ends
    recovery_ends (Err e) ends = ends_refused e ends

-- a refusal before the put puts nothing
pub puts_no_log : {E : Type 0} (a : Asked) (logs : Option Logs) (old : Option (List ℕ)) (e : E) → PutsLogOf a logs old old (Err e)
puts_no_log (listing l) logs old e = tt
puts_no_log (rewriting r) logs old e = tt
puts_no_log (recovering r) None old e = tt
puts_no_log (recovering r) (Some logs) old e = every (logs r.log) _ (λ file log is. puts_nothing (recover_text log) old e)
puts_no_log (sampling s) logs old e = tt
