-- The list of orders: document 01, "The list and the step", its first sentence.
use Rattle.std.specs.Prelude.{ℕ, ◌+◌, ◌*◌, ◌/◌, Bool, cond, List, [], ◌∷◌, Option, Some, None, eqb, ltb, length, get_or}
use Rattle.kit.specs.Bytes.{word_at, long_at}
use Rattle.kit.specs.Each.{each}
use Rattle.kit.specs.Loops.{find}
use Rattle.order_list.specs.declared.Order.{Order}

-- D-01, K-05: ten bytes each: order number (4 bytes, high first), type, a zero byte, first word, second word
unfoldable pub order_at : List ℕ → ℕ → Order
order_at list j =
    record {
      number = long_at list (10 * j);
      kind = get_or list (10 * j + 4) 0;
      spare = get_or list (10 * j + 5) 0;
      first = word_at list (10 * j + 6);
      second = word_at list (10 * j + 8);
    }

-- D-01: how many orders a list has
abbrev pub order_count : List ℕ → ℕ
order_count list = length list / 10

-- one of the first n indices, as an answer that may be none: the searches below answer n where they find nothing
abbrev pub index_below : ℕ → ℕ → Option ℕ
index_below n i = cond (ltb i n) (Some i) None

-- R-07, D-07: which of the first n orders has this order number, or n where none has
unfoldable pub listed_at : List ℕ → ℕ → ℕ → ℕ
listed_at list n number = find (λ j. eqb (order_at list j).number number) n

-- R-07: an order number is in the list, among its first n orders
abbrev pub is_listed : List ℕ → ℕ → ℕ → Bool
is_listed list n number = ltb (listed_at list n number) n

-- D-06, M-3c: an order stands in the list
abbrev pub stands : List ℕ → ℕ → Bool
stands list number = is_listed list (order_count list) number

-- D-07: what the list has under this order number
abbrev pub order_named : List ℕ → ℕ → Order
order_named list number = order_at list (listed_at list (order_count list) number)

-- D-01: the order numbers of the first twenty orders, as many as a list may have; 0 past its end
unfoldable pub numbers_of : List ℕ → List ℕ
numbers_of list = each (λ j. (order_at list j).number ∷ []) 0 20

-- which of twenty order numbers this is, the lowest, or 20 where it is none of them
unfoldable pub found_at : List ℕ → ℕ → ℕ
found_at numbers number = find (λ i. eqb (get_or numbers i 0) number) 20
