-- The rule of carried entries on the bytes of a listener's memory: what the functions of this crate compute on the way to `marks_of`.
use Rattle.std.specs.Prelude.{ℕ, ◌+◌, ◌/◌, ◌%◌, ◌<◌, ◌≤◌, ◌≡◌, ◌⊎◌, Bool, true, false, ◌&&◌, List, [], ◌∷◌, eqb, length, get_or}
use Rattle.kit.specs.Each.{each}
use Rattle.kit.specs.Loops.{any}
use Rattle.condition.specs.Slots.{slot_count}
use Rattle.memory.specs.Memory.{set_from, slot_place, kind_from, is_set}

-- the type of the slot whose bytes begin at `at`
abbrev pub kind_at : List ℕ → ℕ → ℕ
kind_at memory at = kind_from (get_or memory (at + 1) 0) (get_or memory (at + 2) 0)

-- slot j of the picture has this number and this type
abbrev pub has_both : List ℕ → ℕ → ℕ → ℕ → Bool
has_both memory number kind j = eqb (get_or memory (slot_place 0 j) 0) number && eqb (kind_at memory (slot_place 0 j)) kind

-- slot i of the set begins with the three bytes of slot i of the picture: its number, what it holds, and the byte after that
unfoldable pub is_alike : List ℕ → ℕ → Bool
is_alike memory i =
    eqb (get_or memory (slot_place set_from i) 0) (get_or memory (slot_place 0 i) 0)
    && (eqb (get_or memory (slot_place set_from i + 1) 0) (get_or memory (slot_place 0 i + 1) 0)
    && eqb (get_or memory (slot_place set_from i + 2) 0) (get_or memory (slot_place 0 i + 2) 0))

-- slot i of the set is occupied, and some slot of the picture has its number with its type
unfoldable pub is_there : List ℕ → ℕ → Bool
is_there memory i =
    is_set (get_or memory (slot_place set_from i + 1) 0)
    && any (has_both memory (get_or memory (slot_place set_from i) 0) (kind_at memory (slot_place set_from i))) 0 slot_count

-- the same of each slot
unfoldable pub all_there : List ℕ → List Bool
all_there memory = each (λ i. is_there memory i ∷ []) 0 slot_count

-- a number of four bytes whose lower three, lowest first, are these
abbrev pub IsHead : ℕ → ℕ → ℕ → ℕ → Type 0
IsHead number shape own head = (head % 256 ≡ number) × (head / 256 % 256 ≡ shape) × (head / 0x10000 % 256 ≡ own)

-- slot i of the set is occupied
abbrev pub set_holds : List ℕ → ℕ → Bool
set_holds memory i = is_set (get_or memory (slot_place set_from i + 1) 0)

-- the mark of slot j says whether it is there
abbrev pub IsMarked : List ℕ → List Bool → ℕ → Type 0
IsMarked memory marks j = get_or marks j false ≡ is_there memory j

-- slot j is one of the others, from number k on and before number n
abbrev pub IsOther : List ℕ → ℕ → ℕ → ℕ → Type 0
IsOther others k n j = (m : ℕ) × (k ≤ m) × (m < n) × (get_or others m 0 ≡ j)

-- each of the first i slots is marked or is one of the others from number k on; and the n others are occupied slots among them
pub record Sorted (memory : List ℕ) (i k n : ℕ) (others : List ℕ) (marks : List Bool) : Type 0 where
  pub either : (j : ℕ) → j < i → IsMarked memory marks j ⊎ IsOther others k n j
  pub other : (m : ℕ) → m < n → (get_or others m 0 < i) × (set_holds memory (get_or others m 0) ≡ true)
  pub few : n ≤ i
  pub marks_long : length marks ≡ slot_count
  pub others_long : length others ≡ slot_count

-- the numbers of the first i slots of the picture have their flags set
pub record Seen (memory : List ℕ) (i : ℕ) (seen : List Bool) : Type 0 where
  pub flag : (j : ℕ) → j < i → get_or seen (get_or memory (slot_place 0 j) 0) false ≡ true
  pub long : length seen ≡ 256
