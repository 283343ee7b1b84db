-- Where the words and the slots of a table of n frames lie, and what words say of blocks.
use Rattle.std.specs.Prelude.{ℕ, ◌+◌, ◌*◌, ◌<◌, List, ◌∷◌, replicate, Option, Some, None}
use Rattle.block_tag.specs.declared.tag.Tag.{Tag}
use Rattle.block_tag.specs.Names.{unpacked_tag, partition_number, lane_number}
use Rattle.history_core.specs.Words.{Word, end_word, flushed_word, redo_word, hand_word}
use Rattle.history_core.specs.Words.{counter_word, counter_count, hint_word, hint_count}
use Rattle.table_rule.specs.declared.turn.Place.{Place}
use Rattle.table_rule.specs.declared.turn.Place.TheVariants.{Page, Of}
use Rattle.table_rule.specs.declared.turn.Turn.{Turn}
use Rattle.table_rule.specs.declared.turn.Turn.TheVariants.{Partition, Lane, Log}

-- the words of the frame f: its state word, its tag word, and its content word, and five that
-- aren't used, so that frames share no cache line
abbrev pub state_place : ℕ → ℕ
state_place f = 8 * f

abbrev pub tag_place : ℕ → ℕ
tag_place f = 8 * f + 1

abbrev pub content_place : ℕ → ℕ
content_place f = 8 * f + 2

-- the word of a latch
abbrev pub latch_place : ℕ → Turn → ℕ
latch_place n (Partition p) = 8 * n + p
latch_place n (Lane q) = 8 * n + 128 + q
latch_place n Log = 8 * n + 144

abbrev pub latch_count : ℕ
latch_count = 145

-- the other words, which follow those of the latches
-- (`word_place` says where each lies, and one member of the rule shows them all)
abbrev pub first_word : ℕ → ℕ
first_word n = 8 * n + latch_count

abbrev pub word_place : ℕ → Word → ℕ
word_place n end_word = 8 * n + 145
word_place n flushed_word = 8 * n + 146
word_place n hand_word = 8 * n + 147
word_place n redo_word = 8 * n + 148
word_place n (counter_word number) = 8 * n + 149 + number
word_place n (hint_word number) = 8 * n + 169 + number

abbrev pub word_count : ℕ → ℕ
word_count n = 8 * n + 169 + hint_count n

-- which of the other words a table of n frames has
abbrev pub HasWord : ℕ → Word → Type 0
HasWord n (counter_word number) = number < counter_count
HasWord n (hint_word number) = number < hint_count n
HasWord n _ = Unit {0}

-- the numbers of the other words at the start of a log at `base`, in the order of their places
abbrev pub opening_numbers : ℕ → ℕ → List ℕ
opening_numbers n base = base ∷ base ∷ 0 ∷ base ∷ replicate (counter_count + hint_count n) 0

-- the words of the log: its end, and how far it is flushed
abbrev pub end_place : ℕ → ℕ
end_place n = word_place n end_word

abbrev pub flushed_place : ℕ → ℕ
flushed_place n = word_place n flushed_word

-- the hand of the clock
abbrev pub hand_place : ℕ → ℕ
hand_place n = word_place n hand_word

-- the redo position
abbrev pub redo_place : ℕ → ℕ
redo_place n = word_place n redo_word

-- the counter of this number
abbrev pub counter_place : ℕ → ℕ → ℕ
counter_place n number = word_place n (counter_word number)

-- the hint word of this number
abbrev pub hint_place : ℕ → ℕ → ℕ
hint_place n number = word_place n (hint_word number)

-- the slot of a value
abbrev pub slot_of : ℕ → Place → ℕ
slot_of n (Page f) = f
slot_of n (Of (Partition p)) = n + p
slot_of n (Of (Lane q)) = n + 128 + q
slot_of n (Of Log) = n + 144

abbrev pub first_lane_slot : ℕ → ℕ
first_lane_slot n = n + 128

abbrev pub log_slot : ℕ → ℕ
log_slot n = slot_of n (Of Log)

-- the slot of the list in which the lanes came
abbrev pub list_slot : ℕ → ℕ
list_slot n = n + 145

abbrev pub slot_count : ℕ → ℕ
slot_count n = n + 146

-- the partition in which a tag lies, by the tag's number; 0 for a number that is no tag
abbrev pub partition_of_tag : Option Tag → ℕ
partition_of_tag None = 0
partition_of_tag (Some tag) = partition_number tag

abbrev pub tag_partition : ℕ → ℕ
tag_partition word = partition_of_tag (unpacked_tag word)

-- the lane in which a tag lies, of so many
abbrev pub lane_of_tag : ℕ → Option Tag → ℕ
lane_of_tag lanes None = 0
lane_of_tag lanes (Some tag) = lane_number tag lanes

abbrev pub tag_lane : ℕ → ℕ → ℕ
tag_lane lanes word = lane_of_tag lanes (unpacked_tag word)
