-- The fifteen foods in the order of E-4d to E-4r, and the four local foods, which replace a share of others (document 02, [1]).
-- Assumes nothing.
use Rattle.std.specs.Prelude.{ℕ, ◌+◌, ◌*◌}
use Rattle.site.specs.Fields.{ages}

abbrev pub beverage : ℕ  -- E-4d
beverage = 0

abbrev pub bread : ℕ  -- E-4e
bread = 1

abbrev pub can_fruit : ℕ  -- E-4f
can_fruit = 2

abbrev pub can_veg : ℕ  -- E-4g
can_veg = 3

abbrev pub candy : ℕ  -- E-4h
candy = 4

abbrev pub dairy : ℕ  -- E-4i
dairy = 5

abbrev pub fresh_fruit : ℕ  -- E-4j
fresh_fruit = 6

abbrev pub fresh_veg : ℕ  -- E-4k
fresh_veg = 7

abbrev pub formula : ℕ  -- E-4l
formula = 8

abbrev pub infant : ℕ  -- E-4m
infant = 9

abbrev pub juices : ℕ  -- E-4n
juices = 10

abbrev pub meat : ℕ  -- E-4o
meat = 11

abbrev pub nuts : ℕ  -- E-4p
nuts = 12

abbrev pub pasta : ℕ  -- E-4q
pasta = 13

abbrev pub sauce : ℕ  -- E-4r
sauce = 14

abbrev pub food_count : ℕ
food_count = 15

-- the foods' amounts at all ages
abbrev pub amount_count : ℕ
amount_count = ages * food_count

-- the local foods, home-grown vegetable and fruit, fish and game: the order of their shares, and of their leads
abbrev pub vegetable : ℕ
vegetable = 0

abbrev pub fruit : ℕ
fruit = 1

abbrev pub fish : ℕ
fish = 2

abbrev pub game : ℕ
game = 3

abbrev pub local_count : ℕ
local_count = 4

-- the figures of 32 bits: leads, shares, local leads; and all figures, 128
abbrev pub wide_count : ℕ
wide_count = food_count + local_count + local_count

abbrev pub figure_count : ℕ
figure_count = amount_count + wide_count
