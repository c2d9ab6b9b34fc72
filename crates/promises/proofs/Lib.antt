-- Theorems about the definitions and the calls: worked sums; demand 3's error bound, premise and agreement of routes; determined contracts; programs shut out.
pub mod Worked
pub mod Bounds
pub mod BoundedCalls
pub mod Ends
pub mod Made
pub mod Routes
pub mod Agree
pub mod Views
pub mod Reach
pub mod Determined
pub mod ShutOut
