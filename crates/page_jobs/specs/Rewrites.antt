-- What a rewrite does with blocks, and the calls that it makes for them.
use Rattle.std.specs.Prelude.{◌≡◌, ◌⊎◌, ℕ, ◌≤◌, Bool, true, false, List, [], ◌∷◌, ◌++◌, map}
use mathlib.Core.Option.{some}
use lib.ListN.{get_elem?}
use Rattle.block_tag.specs.declared.tag.Fork.{Fork}
use Rattle.block_tag.specs.Names.{packed_tag, tag_of_parts}
use Rattle.page_layout.specs.declared.outcomes.PageRewrite.{PageRewrite}
use Rattle.page_layout.specs.declared.outcomes.PageRewrite.TheVariants.{Invalid}
use Rattle.page_layout.specs.declared.outcomes.RewriteTotals.{RewriteTotals}
use Rattle.page_layout.specs.Fields.{with_lsn}
use Rattle.page_layout.specs.Outcomes.{is_changed_outcome, page_rewrite_of, totals_of_outcomes}
use Rattle.page_layout.specs.Rewritten.{rewritten_page}
use Rattle.pin_core.specs.declared.view.Call.{Call}
use Rattle.pin_core.specs.declared.view.Call.TheVariants.{Read, Write}
use Rattle.pin_core.specs.declared.view.TornRecord.{TornRecord}
use Rattle.pin_core.specs.State.{Page}
use Rattle.history_core.specs.Log.{image_record}
use Rattle.history_core.specs.State.{last_position}

-- A rule for pages, and the packed tags of the blocks of a relation
pub record Rule : Type 0 where
  pub tag : ℕ → ℕ
  -- whether it changes a page, which is sound and not new then
  pub changes : Page → Bool
  -- the page that it makes of one, with its position in the log
  pub rewritten : Page → ℕ → Page

-- the rule of a rewrite, for the blocks of a fork
abbrev pub rule_of : ℕ → Fork → Rule
rule_of rel fork = record {
  tag = λ block. packed_tag (tag_of_parts rel fork block);
  changes = λ page. is_changed_outcome (page_rewrite_of page);
  rewritten = λ page lsn. with_lsn lsn (rewritten_page page);
}

-- What was done with a block: which one, by which backend, the page that was read and its place,
-- and the place of the write
pub data Outcome : Type 0 where
  unsound : ℕ → Outcome
  kept : ℕ → ℕ → Page → ℕ → Outcome
  -- the rule changes the page that was read, and its put was refused
  refused : ℕ → ℕ → Page → ℕ → Outcome
  changed : ℕ → ℕ → Page → ℕ → ℕ → Outcome

abbrev pub outcome_block : Outcome → ℕ
outcome_block (unsound b) = b
outcome_block (kept b i p n) = b
outcome_block (refused b i p n) = b
outcome_block (changed b i p n m) = b

-- whether the block was dealt with to its end
abbrev pub is_ended : Outcome → Bool
is_ended (unsound b) = true
is_ended (kept b i p n) = true
is_ended (refused b i p n) = false
is_ended (changed b i p n m) = true

-- the calls that were made for a block
abbrev pub outcome_calls : Rule → Outcome → List Call
outcome_calls r (unsound b) = []
outcome_calls r (kept b i p n) = Read i (r.tag b) p n ∷ []
outcome_calls r (refused b i p n) = Read i (r.tag b) p n ∷ []
outcome_calls r (changed b i p n m) =
    Read i (r.tag b) p n ∷ Write i (r.tag b) (r.rewritten p m) m image_record ∷ []

-- the calls that were made for blocks, one after the other
abbrev pub calls_for : Rule → List Outcome → List Call
calls_for r [] = []
calls_for r (o ∷ os) = outcome_calls r o ++ calls_for r os

-- what a rewrite tells of the block
abbrev pub result_of : Outcome → PageRewrite
result_of (unsound b) = Invalid
result_of (kept b i p n) = page_rewrite_of p
result_of (refused b i p n) = page_rewrite_of p
result_of (changed b i p n m) = page_rewrite_of p

abbrev pub outcome_totals : List Outcome → RewriteTotals
outcome_totals os = totals_of_outcomes (map result_of os)

-- this holds of each outcome
abbrev pub EachOutcome : (Outcome → Type 0) → List Outcome → Type 0
EachOutcome P [] = Unit {0}
EachOutcome P (o ∷ os) = P o × EachOutcome P os

-- the outcomes are of these blocks, or of the first of them, in their order
abbrev pub AreOf : List ℕ → List Outcome → Type 0
AreOf blocks [] = Unit {0}
AreOf [] (o ∷ os) = ⊥
AreOf (b ∷ blocks) (o ∷ os) = (outcome_block o ≡ b) × AreOf blocks os

abbrev pub IsEnded : Outcome → Type 0
IsEnded o = is_ended o ≡ true

-- all were dealt with to their end, but maybe the last one
abbrev pub StopsAtFailure : List Outcome → Type 0
StopsAtFailure [] = Unit {0}
StopsAtFailure (o ∷ os) = (IsEnded o ⊎ (os ≡ [])) × StopsAtFailure os

-- this holds if the block's page was read
abbrev pub IfRead : Outcome → Type 0 → Type 0
IfRead (unsound b) P = Unit {0}
IfRead (kept b i p n) P = P
IfRead (refused b i p n) P = P
IfRead (changed b i p n m) P = P

-- whether no put was tried for the block
abbrev pub is_unput : Outcome → Bool
is_unput (unsound b) = true
is_unput (kept b i p n) = true
is_unput (refused b i p n) = false
is_unput (changed b i p n m) = false

abbrev pub IsUnput : Outcome → Type 0
IsUnput o = is_unput o ≡ true

-- the record is of a block whose put was refused, and of what the rule makes of the page that was
-- read
abbrev pub TornOf : Rule → List Outcome → TornRecord → Type 0
TornOf r os x =
    (k b i n lsn : ℕ) × (p : Page) × (get_elem? os k ≡ some (refused b i p n))
    × (lsn ≤ last_position) × (x ≡ record { tag = r.tag b; page = r.rewritten p lsn })

-- To the records that a pass failed to append were added only such
pub record TornBy (r : Rule) (os : List Outcome) (before after : List TornRecord) : Type 0 where
  pub more : List TornRecord
  pub added : after ≡ before ++ more
  pub each : (k : ℕ) (x : TornRecord) → get_elem? more k ≡ some x → TornOf r os x
