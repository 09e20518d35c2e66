-- The numbers that orders are given: document 01, "The list and the step", its third and fourth points.
use Rattle.std.specs.Prelude.{ℕ, ◌+◌, ◌%◌, Bool, not, ◌&&◌, List, eqb}
use Rattle.kit.specs.Loops.{scan, any}
use Rattle.places.specs.Places.{place_at}
use Rattle.condition.specs.Slots.{slot_count}
use Rattle.places.specs.declared.Place.{Place}

-- D-12: a live order has the number. A free place has number 0, which is never given.
unfoldable pub has_number : List Place → ℕ → Bool
has_number places number = any (λ i. eqb (place_at places i).slot.number number) 0 slot_count

-- D-12: a number is permitted if no live order has it and it does not rest
abbrev pub is_permitted : (ℕ → Bool) → List Place → ℕ → Bool
is_permitted resting places number = not (has_number places number) && not (resting number)

-- D-10, D-11: the numbers after the last one given, in their order: 255 is followed by 1, 0 is never given, and 1 is the first
-- where none has been given
abbrev pub number_after : ℕ → ℕ → ℕ
number_after last others = (last + others) % 255 + 1

-- D-09: the first permitted number after the last one given. That there is one is a theorem (D-15); 0 stands for none.
unfoldable pub next_number : (ℕ → Bool) → List Place → ℕ → ℕ
next_number resting places last = scan (λ others. is_permitted resting places (number_after last others)) (number_after last) 0 0 255
