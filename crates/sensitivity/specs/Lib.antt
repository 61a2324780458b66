-- How far the day's uptake T moves when one medium's q rises, and days that go as far as that.
pub mod Laws
pub mod Witness
